use Rattle.std.proofs.Common.{◌≡◌, ◌+◌, ◌-◌, ◌*◌, length}
use Rattle.je_machine.specs.Heap.{make_many, make_array}
use Rattle.je_heap.proofs.ArrayLemmas.{later}
use Rattle.je_heap.proofs.array.+arrays.Given as goal

abbrev pub decreases-make_array : goal.decreases-make_array
decreases-make_array l = 3 * length l.sizes.now

abbrev pub decreases-make_many : goal.decreases-make_many
decreases-make_many l = 3 * length l.sizes.now + 1

-- what is made and what is still to come are all
abbrev pub invariant-make_many-loop : goal.invariant-make_many-loop
invariant-make_many-loop l =
    make_many (make_array l.of l.sizes) l.count l.fn.heap
    ≡ later (make_array l.of l.sizes) l.made (l.count - l.counter) l.heap

abbrev pub decreases-make_elements : goal.decreases-make_elements
decreases-make_elements l = 3 * length l.sizes.now + 2
