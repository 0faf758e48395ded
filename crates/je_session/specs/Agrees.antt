-- The main theorem's statement on one method.
use Rattle.std.specs.Prelude.{List}
use Rattle.je_machine.specs.Value.{Value}
use Rattle.je_machine.specs.Heap.{Heap}
use Rattle.je_machine.specs.Classes.{Classes}
use Rattle.je_machine.specs.Operation.{Program}
use Rattle.je_machine.specs.Outside.{Answer}
use Rattle.je_machine.specs.Machine.{run_of}
use Rattle.je_machine.specs.View.{AgreeingRuns}
use Rattle.je_session.specs.declared.plan.MethodPlan.{MethodPlan}
use Rattle.je_session.specs.Wrapped.{wrapped}

-- The new program does what the plan says of the old one, for every class relation, arguments, heap
-- and answers: what the old one shows under any bound the new one shows under some bound, and what
-- the new one shows is no more than that. So both end alike with equal heaps, or neither ends and
-- both show the same events.
abbrev pub Agrees : Program → MethodPlan → Program → Type 0
Agrees old plan new =
    (classes : Classes) (arguments : List Value) (heap : Heap) (answers : List Answer)
    → AgreeingRuns (wrapped old plan classes arguments heap answers)
    (run_of new classes arguments heap answers)
