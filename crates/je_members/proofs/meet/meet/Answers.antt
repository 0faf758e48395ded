use Rattle.std.proofs.Common.{◌∙◌, sym, Ok, Err}
use Rattle.je_members.proofs.StepLemmas.{sought_is, looked_at, looked_broken}
use Rattle.je_members.proofs.meet.meet.Goals as goal

pub returns-in-Ok : goal.returns-in-Ok
returns-in-Ok g c = sought_is c.args.sought.now c.args.name.now (sym c.contains.ensures.value ∙ c.if-contains.true) c.in-Ok.ensures

pub returns-in-Ok-Ok : goal.returns-in-Ok-Ok
returns-in-Ok-Ok g c =
    looked_at c.args.sought.now c.args.name.now (Ok c.in-Ok-Ok.kin) (sym c.contains.ensures.value ∙ c.if-contains.false)
    (rw c.in-Ok-Ok.field-0-is at c.in-Ok-Ok.ensures)

pub returns-in-Ok-Err : goal.returns-in-Ok-Err
returns-in-Ok-Err g c =
    looked_at c.args.sought.now c.args.name.now (Err c.in-Ok-Err.bad) (sym c.contains.ensures.value ∙ c.if-contains.false)
    (rw c.in-Ok-Err.field-0-is at c.in-Ok-Err.ensures)

pub returns-in-Err-kin_at : goal.returns-in-Err-kin_at
returns-in-Err-kin_at g c =
    looked_broken c.args.sought.now c.args.name.now c.in-Err-kin_at.why (sym c.contains.ensures.value ∙ c.if-contains.false)
    c.in-Err-kin_at.ensures
