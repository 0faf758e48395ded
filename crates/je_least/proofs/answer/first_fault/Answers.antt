use Rattle.je_least.specs.Plans.{plan_seen}
use Rattle.je_least.proofs.StepLemmas.{found_at, none_at, none_left}
use Rattle.je_least.proofs.answer.first_fault.Goals as goal

pub returns-then-branch : goal.returns-then-branch
returns-then-branch c =
    found_at (plan_seen c.args.plan.now) c.operations-operation-items.result.now c.args.table.now c.loop-index.index c.in-Ok.at c.operation-item.result c.index-table-index.result c.in_ok-is_faulty.field-0
    c.operations-operation-items.ensures c.in-Ok.ensures.1 c.loop-index-test.true c.operation-item.is c.requires c.index-table-index.is c.in_ok-is_faulty.ensures c.if-branch.true c.loop-index.invariant

pub loop-index-preserved : goal.loop-index-preserved
loop-index-preserved c =
    none_at (plan_seen c.args.plan.now) c.operations-operation-items.result.now c.args.table.now c.loop-index.index c.in-Ok.at c.operation-item.result c.index-table-index.result c.in_ok-is_faulty.field-0
    c.operations-operation-items.ensures c.in-Ok.ensures.1 c.loop-index-test.true c.operation-item.is c.requires c.index-table-index.is c.in_ok-is_faulty.ensures c.if-branch.false c.loop-index.invariant

pub returns : goal.returns
returns c =
    none_left (plan_seen c.args.plan.now) c.operations-operation-items.result.now c.args.table.now c.loop-index.index
    c.operations-operation-items.ensures c.loop-index-test.false c.loop-index.invariant
