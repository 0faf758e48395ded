use Rattle.std.proofs.Common.{◌∙◌, sym}
use Rattle.je_heap.proofs.ThrowLemmas.{raises}
use Rattle.je_heap.proofs.outside.throw_admitted.Goals as goal

pub returns-in_ok-response : goal.returns-in_ok-response
returns-in_ok-response c =
    c.in_ok-response.ensures
    ∙ raises c.args.reference c.args.outside (sym c.is_thrown.ensures ∙ c.if-is_thrown.false)
