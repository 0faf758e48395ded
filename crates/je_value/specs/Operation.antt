-- The instructions of the definitions, and the forms that the program has of them.
use Rattle.je_machine.specs.Operation as machine
use Rattle.je_value.specs.Condition.{condition_in}
use Rattle.je_value.specs.declared.operation.OperationForm.{OperationForm}
use Rattle.je_value.specs.declared.operation.OperationForm.TheVariants as operations

-- the instruction of a form
abbrev pub operation_in : OperationForm → machine.Operation
operation_in (operations.Do basic) = machine.Do basic
operation_in (operations.Load kind slot) = machine.Load kind slot
operation_in (operations.Store kind slot) = machine.Store kind slot
operation_in (operations.Increment slot by) = machine.Increment slot by
operation_in (operations.Branch condition target) =
    machine.Branch (condition_in condition) target
operation_in (operations.Goto target) = machine.Goto target
operation_in (operations.Switch cases fallback) = machine.Switch cases fallback
operation_in (operations.Return kind) = machine.Return kind
