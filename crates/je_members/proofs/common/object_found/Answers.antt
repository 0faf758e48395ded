use Rattle.std.proofs.Common.{Ok, ap}
use Rattle.std.specs.Str.{chars}
use Rattle.je_world.specs.Question.{Name}
use Rattle.je_members.proofs.common.object_found.Goals as goal

pub returns-in-Ok : goal.returns-in-Ok
unfolding chars
returns-in-Ok c = record { ok = ap (λ (n : Name). Ok n) c.in-Ok.ensures; err = tt }
