use Rattle.std.proofs.Common.{◌-◌, refl, arith}
use Rattle.je_flow.proofs.ClassLemmas.{bracket_put}
use Rattle.je_flow.proofs.classes.push_brackets.Goals as goal

pub loop-left-preserved : goal.loop-left-preserved
loop-left-preserved c =
    λ t. bracket_put c.loop-left.out.items c.push.new.self.items c.loop-left.left (c.loop-left.left - 1) 91 t _ refl
    c.in_ok-push.ensures.items (omega (arith, c.loop-left-test.true)) (c.loop-left.invariant t)
