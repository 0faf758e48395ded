use Rattle.std.proofs.Common.{map, ◌∙◌}
use Rattle.je_least.specs.Knowns.{known_seen}
use Rattle.je_least.specs.Plans.{plan_seen}
use Rattle.je_least.proofs.StepLemmas.{shape_passed}
use Rattle.je_least.proofs.search.pass_shape.Goals as goal

pub returns-then-branch : goal.returns-then-branch
returns-then-branch c =
    shape_passed (plan_seen c.args.plan.now) c.args.at c.args.operation.now c.args.s.now c.in_ok-left.left c.as_slice.result.now c.as_slice-then-branch.result.now c.as_slice-then-branch-2.result.now
    c.in_ok-serves_method.field-0 c.in_ok-serves_method.ensures c.if-branch.true c.in_ok-left.ensures c.as_slice.ensures c.as_slice-then-branch.ensures c.as_slice-then-branch-2.ensures
    (map known_seen c.args.search.now.table.items) c.args.search.now.todo.items (map known_seen c.send.new.search.table.items) c.send.new.search.todo.items
    (c.in_ok-send.ensures c.args.operation.now (c.deref-then-branch.ensures.value ∙ c.in_ok-next.ensures))
