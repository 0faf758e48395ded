use Rattle.je_session.proofs.RefusalLemmas.{one_refusal, RefusalLaws}
use Rattle.je_session.proofs.laws.one_refusal.Goals as goal

pub returns : goal.returns
returns c words files r q is other =
    let laws : RefusalLaws = record { same = c.one_class.ensures.same; no_fault = c.one_class.ensures.no_fault; one_fault = c.one_class.ensures.one_fault } in
    one_refusal laws words files r q is other
