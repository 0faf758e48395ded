-- Rows of the table of opcodes, as the laws on it name them.
use Rattle.std.specs.Prelude.{ℕ, List, [], ◌∷◌, Option, Some, Bool, ◌&&◌, ◌||◌, nat_le}
use Rattle.je_machine.specs.Value.{Kind}
use Rattle.je_machine.specs.Calculation.{BinaryOp, Add, Subtract, Multiply, Divide, Remainder, And}
use Rattle.je_machine.specs.Calculation.{Or, Xor}
use Rattle.je_machine.specs.Action.{Element, Bytes, Chars, Shorts, Ints, Longs, Floats, Doubles}
use Rattle.je_machine.specs.Action.{References, FloatOperation}
use Rattle.je_machine.specs.Operation.{Operation, Do, Act}

-- what the elements of arrays are, in the order of the opcodes
abbrev pub elements : List Element
elements =
    Ints ∷ Longs ∷ Floats ∷ Doubles ∷ References ∷ Bytes ∷ Chars ∷ Shorts ∷ []

abbrev pub binaries : List BinaryOp
binaries = Add ∷ Subtract ∷ Multiply ∷ Divide ∷ Remainder ∷ And ∷ Or ∷ Xor ∷ []

abbrev pub float_of : List Kind → Kind → ℕ → Option Operation
float_of operands result opcode = Some (Do (Act (FloatOperation opcode operands result)))

abbrev pub is_within : ℕ → ℕ → ℕ → Bool
is_within first last n = nat_le first n && nat_le n last

-- the opcodes that stand alone
abbrev pub is_simple : ℕ → Bool
is_simple n =
    is_within 0 1 n || is_within 9 15 n || is_within 46 53 n || is_within 79 131 n
    || is_within 133 152 n || is_within 172 177 n || is_within 190 191 n || is_within 194 195 n
