use Rattle.je_instr.specs.Content.{content_at}
use Rattle.je_instr.proofs.ConstLemmas.{field_in}
use Rattle.je_instr.proofs.calls.is_field_const.Goals as goal

pub returns-in-Some-Field-default-default-default : goal.returns-in-Some-Field-default-default-default
returns-in-Some-Field-default-default-default c =
    let m = c.in-Some-Field-default-default-default in
    field_in (content_at c.args.consts.now c.args.index) m.class.now m.name.now m.text.now c.is_field_of.result (rw m.field-0-0-is at m.ensures)
    (rw (c.bytes.ensures.bytes, c.bytes-in-Some-Field-default-default-default.ensures.bytes, c.bytes-in-Some-Field-default-default-default-2.ensures.bytes) at c.is_field_of.ensures)
