use Rattle.std.proofs.Common.{ap}
use Rattle.je_least.specs.Knowns.{known_seen, parts_seen}
use Rattle.je_shape.specs.Views.{shape_seen}
use Rattle.je_least.proofs.ArriveLemmas.{first_came}
use Rattle.je_least.proofs.arrive.come.Goals as goal

pub returns-in_ok-shape-in-Nothing : goal.returns-in_ok-shape-in-Nothing
returns-in_ok-shape-in-Nothing c =
    first_came (parts_seen c.args.stack.now c.args.locals.now) (shape_seen c.in_ok-shape-in-Nothing.shape) (known_seen c.args.there.now)
    (ap known_seen c.in-Nothing.is) c.in_ok-shape-in-Nothing.ensures
