-- What steps come to, in the definitions and in the program's forms.
use Rattle.std.specs.Prelude.{ℕ, None, option_map}
use Rattle.je_machine.specs.Machine.{State}
use Rattle.je_machine.specs.Step as machine
use Rattle.je_vm.specs.declared.machine.Ending.{Ending}
use Rattle.je_vm.specs.declared.machine.Ending.TheVariants as endings
use Rattle.je_vm.specs.declared.machine.Outcome.{Outcome}
use Rattle.je_vm.specs.declared.machine.Progress.{Progress}
use Rattle.je_vm.specs.declared.machine.Progress.TheVariants as steps

-- how a method ends, as the definition has it
abbrev pub ending_in : Ending → machine.Ending
ending_in (endings.Returned value) = machine.Returned value
ending_in (endings.Thrown reference) = machine.Thrown reference

-- what a run has come to, as the definition has it
abbrev pub outcome_in : Outcome → machine.Outcome
outcome_in o =
    record {
      ending = option_map ending_in o.ending;
      left = o.left;
      locals = o.locals;
      outside = o.outside;
    }

-- what a step comes to, as the definition has it
abbrev pub progress_in : Progress → machine.Progress State
progress_in (steps.Goes left state) = machine.Goes left state
progress_in (steps.Stops outcome) = machine.Stops (outcome_in outcome)

-- what has neither ended nor gone on
abbrev pub paused_at : ℕ → State → machine.Outcome
paused_at left state =
    record { ending = None; left = left; locals = state.frame.locals; outside = state.outside }
