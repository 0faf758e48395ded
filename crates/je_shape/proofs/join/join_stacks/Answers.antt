use Rattle.je_shape.proofs.WalkLemmas.{none_left, stack_step, stack_ended}
use Rattle.je_shape.proofs.join.join_stacks.Goals as goal

pub loop-x-preserved : goal.loop-x-preserved
loop-x-preserved c =
    stack_step c.args.a.now c.args.b.now c.loop-x.joined.items c.push.new.self.items c.loop-x.left.now c.loop-x.right.now c.in-Some.xs.now c.in-Some-split_first.ys.now
    c.in-Some.x.now c.in-Some-split_first.y.now c.in-Some-2.slot c.in-Some.ensures.cases.0 c.in-Some-split_first.ensures.cases.0
    c.in_ok-push-in-Some-2.ensures.items (rw c.in-Some-2.is at c.in_ok-slot-in-Some-split_first.ensures) c.loop-x.invariant

pub returns-in-None-split_first : goal.returns-in-None-split_first
returns-in-None-split_first c =
    stack_ended c.args.a.now c.args.b.now c.loop-x.joined.items c.loop-x.left.now c.loop-x.right.now (none_left c.loop-x.left.now c.in_default.ensures.cases) (none_left c.loop-x.right.now c.in-None-split_first.ensures.cases) c.loop-x.invariant
