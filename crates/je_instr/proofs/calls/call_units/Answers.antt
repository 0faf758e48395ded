use Rattle.je_instr.specs.Content.{content_at}
use Rattle.je_instr.specs.Views.{sort_of_call}
use Rattle.je_instr.proofs.ConstLemmas.{call_some}
use Rattle.je_instr.proofs.calls.call_units.Goals as goal

pub returns-in-Some-clause-some : goal.returns-in-Some-clause-some
returns-in-Some-clause-some c =
    let m = c.in-Some in
    call_some (content_at c.args.consts.now c.args.index) (sort_of_call c.args.call) (m.tag, m.class.now, m.name.now, m.text.now) c.method_units.result m.ensures
    (rw (c.bytes.ensures.bytes, c.bytes-in-Some.ensures.bytes, c.bytes-in-Some-2.ensures.bytes) at c.method_units.ensures.some)
