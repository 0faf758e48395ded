use Rattle.je_shape.specs.Slot.{IsBelow}
use Rattle.je_least.proofs.TestLemmas.{each_stops, each_later, ended_stops, ended_later, below_test}
use Rattle.je_least.proofs.below.are_locals_below.Goals as goal

pub returns-then-not-is_slot_below : goal.returns-then-not-is_slot_below
returns-then-not-is_slot_below c =
    each_stops IsBelow c.args.a.now c.args.b.now c.loop-y.left.now c.loop-y.right.now c.in-Some-split_first.xs.now c.in-Some.ys.now
    c.in-Some-split_first.x.now c.in-Some.y.now c.in-Some.ensures.cases.0 c.in-Some-split_first.ensures.cases.0
    c.if-not-is_slot_below.ensures c.loop-y.invariant

pub returns-then-not-is_top : goal.returns-then-not-is_top
returns-then-not-is_top c =
    ended_stops IsBelow below_test c.args.a.now c.args.b.now c.loop-y.left.now c.loop-y.right.now c.in-Some.ys.now
    c.in-Some.y.now c.in-Some.ensures.cases.0 c.in-None.ensures.cases c.if-not-is_top.ensures c.loop-y.invariant

pub loop-y-preserved-else-not-is_slot_below : goal.loop-y-preserved-else-not-is_slot_below
loop-y-preserved-else-not-is_slot_below c =
    each_later IsBelow c.args.a.now c.args.b.now c.loop-y.left.now c.loop-y.right.now c.in-Some-split_first.xs.now c.in-Some.ys.now
    c.in-Some-split_first.x.now c.in-Some.y.now c.in-Some.ensures.cases.0 c.in-Some-split_first.ensures.cases.0
    c.if-not-is_slot_below.ensures c.loop-y.invariant

pub loop-y-preserved : goal.loop-y-preserved
loop-y-preserved c =
    ended_later IsBelow below_test c.args.a.now c.args.b.now c.loop-y.left.now c.loop-y.right.now c.in-Some.ys.now
    c.in-Some.y.now c.in-Some.ensures.cases.0 c.in-None.ensures.cases c.if-not-is_top.ensures c.loop-y.invariant
