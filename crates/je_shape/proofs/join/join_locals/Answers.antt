use Rattle.je_shape.proofs.WalkLemmas.{none_left, locals_step, locals_ended, locals_stopped}
use Rattle.je_shape.proofs.join.join_locals.Goals as goal

pub loop-x-preserved : goal.loop-x-preserved
loop-x-preserved c =
    locals_step c.args.a.now c.args.b.now c.loop-x.joined.items c.push.new.self.items c.loop-x.left.now c.loop-x.right.now c.in-Some.xs.now c.in-Some-split_first.ys.now
    c.in-Some.x.now c.in-Some-split_first.y.now c.in_ok-slot-in-Some-split_first.slot c.in-Some.ensures.cases.0 c.in-Some-split_first.ensures.cases.0
    c.in_ok-push-in-Some-split_first.ensures.items c.in_ok-slot-in-Some-split_first.ensures c.loop-x.invariant

pub returns-in-None : goal.returns-in-None
returns-in-None c =
    locals_stopped c.args.a.now c.args.b.now c.loop-x.joined.items c.loop-x.left.now c.loop-x.right.now (none_left c.loop-x.right.now c.in-None.ensures.cases) c.loop-x.invariant

pub returns : goal.returns
returns c =
    locals_ended c.args.a.now c.args.b.now c.loop-x.joined.items c.loop-x.left.now c.loop-x.right.now (none_left c.loop-x.left.now c.in_default.ensures.cases) c.loop-x.invariant
