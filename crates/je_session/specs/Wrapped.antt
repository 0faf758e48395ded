-- What an edited method is to do: the parts of its plan round the reference run of its body. The
-- plan has rules alone so far, so the body is all of it.
use Rattle.std.specs.Prelude.{ℕ, List}
use Rattle.je_machine.specs.Value.{Value}
use Rattle.je_machine.specs.Heap.{Heap}
use Rattle.je_machine.specs.Classes.{Classes}
use Rattle.je_machine.specs.Operation.{Program}
use Rattle.je_machine.specs.Outside.{Answer}
use Rattle.je_machine.specs.Step.{Outcome}
use Rattle.je_session.specs.declared.plan.MethodPlan.{MethodPlan}
use Rattle.je_session.specs.RefRun.{reference_run}

abbrev pub wrapped : Program → MethodPlan → Classes → List Value → Heap → List Answer → ℕ → Outcome
wrapped program plan classes arguments heap answers bound =
    reference_run program classes plan.rules arguments heap answers bound
