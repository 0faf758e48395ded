use Rattle.std.proofs.Common.{◌∙◌, sym}
use Rattle.je_members.proofs.AboveLemmas.{above_itself, was_before, met_now, met_breaks}
use Rattle.je_members.proofs.above.step.Goals as goal

pub returns-in-Ok : goal.returns-in-Ok
returns-in-Ok g c =
    above_itself c.args.sought.now c.args.below.now c.args.so_far.now c.args.name.now
    (sym c.contains.ensures.value ∙ c.if-contains.true) c.in-Ok.ensures

pub returns-then-contains-2 : goal.returns-then-contains-2
returns-then-contains-2 g c =
    was_before c.args.sought.now c.args.below.now c.args.so_far.now c.args.name.now
    (sym c.contains.ensures.value ∙ c.if-contains.false)
    (sym c.contains-2.ensures.value ∙ c.if-contains-2.true)

pub returns-in-Ok-meet : goal.returns-in-Ok-meet
returns-in-Ok-meet g c =
    met_now c.args.sought.now c.args.below.now c.args.so_far.now c.args.name.now c.in-Ok-meet.met
    (sym c.contains.ensures.value ∙ c.if-contains.false)
    (sym c.contains-2.ensures.value ∙ c.if-contains-2.false) c.in-Ok-meet.ensures

pub returns-in-Err-meet : goal.returns-in-Err-meet
returns-in-Err-meet g c =
    met_breaks c.args.sought.now c.args.below.now c.args.so_far.now c.args.name.now
    c.in-Err-meet.why (sym c.contains.ensures.value ∙ c.if-contains.false)
    (sym c.contains-2.ensures.value ∙ c.if-contains-2.false) c.in-Err-meet.ensures
