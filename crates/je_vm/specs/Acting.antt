-- Serves private functions: operands of actions, as they are admitted.
use Rattle.std.specs.Prelude.{◌≡◌, List}
use Rattle.je_machine.specs.Value.{Value, admit_all}
use Rattle.je_machine.specs.Action.{Action, operands_of}

-- each operand is of its kind, so that to admit them once more changes nothing
abbrev pub AreAdmitted : Action → List Value → Type 0
AreAdmitted action operands = operands ≡ admit_all (operands_of action) operands
