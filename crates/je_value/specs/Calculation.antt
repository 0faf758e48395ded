-- The calculations of the definitions, and the forms that the program has of them.
use Rattle.std.specs.Prelude.{ℕ, ℤ, List, Option, Some, None, if◌then◌else◌}
use Rattle.std.specs.Int.{Width}
use Rattle.je_machine.specs.Value.{Kind, Value, number_of, value_at, admit}
use Rattle.je_machine.specs.Calculation as machine
use Rattle.je_value.specs.declared.calculation.Whole.{Whole}
use Rattle.je_value.specs.declared.calculation.Whole.TheVariants as wholes
use Rattle.je_value.specs.declared.calculation.BinaryOp.{BinaryOp}
use Rattle.je_value.specs.declared.calculation.BinaryOp.TheVariants as binaries
use Rattle.je_value.specs.declared.calculation.ShiftOp.{ShiftOp}
use Rattle.je_value.specs.declared.calculation.ShiftOp.TheVariants as shifts
use Rattle.je_value.specs.declared.calculation.Part.{Part}
use Rattle.je_value.specs.declared.calculation.Part.TheVariants as parts
use Rattle.je_value.specs.declared.calculation.Calculation.{Calculation}
use Rattle.je_value.specs.declared.calculation.Calculation.TheVariants as calculations

-- the whole type of a form
abbrev pub whole_in : Whole → machine.Whole
whole_in wholes.Int = machine.IntWhole
whole_in wholes.Long = machine.LongWhole

-- the operation of a form
abbrev pub binary_in : BinaryOp → machine.BinaryOp
binary_in binaries.Add = machine.Add
binary_in binaries.Subtract = machine.Subtract
binary_in binaries.Multiply = machine.Multiply
binary_in binaries.Divide = machine.Divide
binary_in binaries.Remainder = machine.Remainder
binary_in binaries.And = machine.And
binary_in binaries.Or = machine.Or
binary_in binaries.Xor = machine.Xor

-- the shift of a form
abbrev pub shift_in : ShiftOp → machine.ShiftOp
shift_in shifts.Left = machine.ShiftLeft
shift_in shifts.Right = machine.ShiftRight
shift_in shifts.RightUnsigned = machine.ShiftRightUnsigned

-- the part of a form
abbrev pub part_in : Part → machine.Part
part_in parts.Byte = machine.BytePart
part_in parts.Char = machine.CharPart
part_in parts.Short = machine.ShortPart

-- the calculation of a form
abbrev pub calculation_in : Calculation → machine.Calculation
calculation_in (calculations.Binary whole op) = machine.Binary (whole_in whole) (binary_in op)
calculation_in (calculations.Shift whole op) = machine.Shift (whole_in whole) (shift_in op)
calculation_in (calculations.Negate whole) = machine.Negate (whole_in whole)
calculation_in calculations.Extend = machine.Extend
calculation_in calculations.Truncate = machine.Truncate
calculation_in (calculations.Keep part) = machine.Keep (part_in part)
calculation_in calculations.CompareLongs = machine.CompareLongs

-- what is computed of two numbers, and none where one is divided by zero
abbrev pub binary_result : Width → machine.BinaryOp → ℤ → ℤ → Option ℤ
binary_result w op x y = if machine.has_result op y then Some (machine.binary w op x y) else None

-- a number as an int that enters the machine, or as a long
abbrev pub whole_at : Kind → List Value → ℕ → ℤ
whole_at kind operands i = number_of (admit kind (value_at operands i))

-- what is computed of two numbers, as a value
abbrev pub binary_value : machine.Whole → machine.BinaryOp → ℤ → ℤ → Option Value
binary_value whole op x y =
    if machine.has_result op y
    then Some (machine.value_of_whole whole (machine.binary (machine.width_of whole) op x y))
    else None

-- a number that is shifted by the distance of another, as a value
abbrev pub shifted_value : machine.Whole → machine.ShiftOp → ℤ → ℤ → Value
shifted_value whole op x n =
    machine.value_of_whole whole
    (machine.shifted (machine.width_of whole) op x (machine.distance whole n))
