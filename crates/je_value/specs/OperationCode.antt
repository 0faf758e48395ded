-- Instructions and programs as plain data: each instruction has a form.
use Rattle.std.specs.Prelude.{◌≡◌, refl}
use Rattle.std.proofs.Common.{ap}
use Rattle.std.specs.Coded.{Coded, code_by}
use Rattle.je_machine.specs.Operation as machine
use Rattle.je_value.specs.Operation.{operation_in}
use Rattle.je_value.specs.BasicCode.{condition_back, condition_is_back}
use Rattle.je_value.specs.declared.operation.OperationForm.{OperationForm}
use Rattle.je_value.specs.declared.operation.OperationForm.TheVariants as operations
use Rattle.je_value.specs.contracts.operation.OperationForm.{the_row}

-- the form of an instruction
abbrev pub operation_back : machine.Operation → OperationForm
operation_back (machine.Do basic) = operations.Do basic
operation_back (machine.Load kind slot) = operations.Load kind slot
operation_back (machine.Store kind slot) = operations.Store kind slot
operation_back (machine.Increment slot by) = operations.Increment slot by
operation_back (machine.Branch condition target) =
    operations.Branch (condition_back condition) target
operation_back (machine.Goto target) = operations.Goto target
operation_back (machine.Switch cases fallback) = operations.Switch cases fallback
operation_back (machine.Return kind) = operations.Return kind

pub operation_is_back : (o : machine.Operation) → operation_in (operation_back o) ≡ o
operation_is_back (machine.Do basic) = refl
operation_is_back (machine.Load kind slot) = refl
operation_is_back (machine.Store kind slot) = refl
operation_is_back (machine.Increment slot by) = refl
operation_is_back (machine.Branch condition target) =
    ap (λ c. machine.Branch c target) (condition_is_back condition)
operation_is_back (machine.Goto target) = refl
operation_is_back (machine.Switch cases fallback) = refl
operation_is_back (machine.Return kind) = refl

-- an instruction is stored as its form
abbrev pub operation_code : Coded machine.Operation
operation_code = code_by OperationForm the_row.coded operation_back operation_in operation_is_back
