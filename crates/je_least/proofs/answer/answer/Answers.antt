use Rattle.std.proofs.Common.{map}
use Rattle.std.specs.Prelude.{option_map}
use Rattle.je_shape.specs.Views.{shape_seen}
use Rattle.je_least.specs.Plans.{plan_seen}
use Rattle.je_least.proofs.StepLemmas.{answered}
use Rattle.je_least.proofs.answer.answer.Goals as goal

pub returns-in_ok-list-in-None : goal.returns-in_ok-list-in-None
returns-in_ok-list-in-None c =
    answered (plan_seen c.args.plan.now) c.deref.result.now c.in_ok-table.table.items c.in_ok-at.field-0 (map (option_map shape_seen) c.in_ok-list-in-None.list)
    c.deref.ensures.value c.in_ok-table.ensures.count c.in_ok-table.ensures.least c.in-None.is c.in_ok-at.ensures c.in_ok-list-in-None.ensures
