use Rattle.je_heap.proofs.ArrayLemmas.{later_on}
use Rattle.je_machine.specs.Heap.{make_array}
use Rattle.je_heap.proofs.array.+arrays.Goals as goal

pub make_many-loop-preserved : goal.make_many-loop-preserved
make_many-loop-preserved t c =
    later_on (make_array c.args.of.now c.args.sizes.now) c.loop.made _ c.args.count c.loop.counter
    c.loop.heap c.in_ok-array.after c.in_ok-array.array _
    c.loop-test.true c.in_ok-array.ensures c.in_ok-push.ensures.ok c.loop.invariant
