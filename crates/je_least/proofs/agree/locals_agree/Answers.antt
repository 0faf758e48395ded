use Rattle.je_shape.specs.Least.{LocalAgrees}
use Rattle.je_least.proofs.TestLemmas.{each_stops, each_later, ended_stops, ended_later, agrees_test}
use Rattle.je_least.proofs.agree.locals_agree.Goals as goal

pub returns-then-not-local_agrees : goal.returns-then-not-local_agrees
returns-then-not-local_agrees c =
    each_stops LocalAgrees c.args.a.now c.args.frame.now c.loop-y.left.now c.loop-y.right.now c.in-Some-split_first.xs.now c.in-Some.ys.now
    c.in-Some-split_first.x.now c.in-Some.y.now c.in-Some.ensures.cases.0 c.in-Some-split_first.ensures.cases.0
    c.if-not-local_agrees.ensures c.loop-y.invariant

pub returns-then-not-is_top : goal.returns-then-not-is_top
returns-then-not-is_top c =
    ended_stops LocalAgrees agrees_test c.args.a.now c.args.frame.now c.loop-y.left.now c.loop-y.right.now c.in-Some.ys.now
    c.in-Some.y.now c.in-Some.ensures.cases.0 c.in-None.ensures.cases c.if-not-is_top.ensures c.loop-y.invariant

pub loop-y-preserved-else-not-local_agrees : goal.loop-y-preserved-else-not-local_agrees
loop-y-preserved-else-not-local_agrees c =
    each_later LocalAgrees c.args.a.now c.args.frame.now c.loop-y.left.now c.loop-y.right.now c.in-Some-split_first.xs.now c.in-Some.ys.now
    c.in-Some-split_first.x.now c.in-Some.y.now c.in-Some.ensures.cases.0 c.in-Some-split_first.ensures.cases.0
    c.if-not-local_agrees.ensures c.loop-y.invariant

pub loop-y-preserved : goal.loop-y-preserved
loop-y-preserved c =
    ended_later LocalAgrees agrees_test c.args.a.now c.args.frame.now c.loop-y.left.now c.loop-y.right.now c.in-Some.ys.now
    c.in-Some.y.now c.in-Some.ensures.cases.0 c.in-None.ensures.cases c.if-not-is_top.ensures c.loop-y.invariant
