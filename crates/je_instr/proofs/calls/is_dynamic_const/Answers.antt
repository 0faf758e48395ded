use Rattle.je_instr.specs.Content.{content_at}
use Rattle.je_instr.proofs.ConstLemmas.{dynamic_in}
use Rattle.je_instr.proofs.calls.is_dynamic_const.Goals as goal

pub returns-in-Some : goal.returns-in-Some
returns-in-Some c =
    dynamic_in (content_at c.args.consts.now c.args.index) c.in-Some.name.now c.in-Some.text.now c.is_dynamic.result c.in-Some.ensures
    (rw (c.bytes.ensures.bytes, c.bytes-in-Some.ensures.bytes) at c.is_dynamic.ensures)
