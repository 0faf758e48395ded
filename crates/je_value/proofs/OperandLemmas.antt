-- Values at indexes of lists.
use Rattle.std.proofs.Common.{◌≡◌, ℕ, zero, suc, List, [], ◌∷◌, Some, slice_get, refl}
use Rattle.std.specs.Prelude.{pos, unwrap_or}
use Rattle.std.specs.Int.{int_wrap}
use Rattle.je_machine.specs.Value.{Value, Int, value_at, Kind, IntKind, LongKind, FloatKind}
use Rattle.je_machine.specs.Value.{DoubleKind, ReferenceKind, zero_of, admit, admit_all, number_of}
use Rattle.je_machine.specs.Calculation.{Whole, BinaryOp, ShiftOp, Binary, Shift, calculate}
use Rattle.je_machine.specs.Calculation.{calculation_operands, kind_of_whole}
use Rattle.je_value.specs.Calculation.{binary_value, shifted_value, whole_at}

pub value_at_is : (vs : List Value) (i : ℕ)
    → value_at vs i ≡ unwrap_or (slice_get vs i) (Int (pos 0))
value_at_is [] i = refl
value_at_is (v ∷ vs) zero = refl
value_at_is (v ∷ vs) (suc i) = value_at_is vs i

-- ---- operands that are admitted

zero_or : (k : Kind) → zero_of k ≡ admit k (Int (pos 0))
unfolding int_wrap
zero_or IntKind = refl
zero_or LongKind = refl
zero_or FloatKind = refl
zero_or DoubleKind = refl
zero_or ReferenceKind = refl

pub operand_0 : (k : Kind) (ks : List Kind) (vs : List Value)
    → value_at (admit_all (k ∷ ks) vs) 0 ≡ admit k (value_at vs 0)
operand_0 k ks [] = zero_or k
operand_0 k ks (v ∷ vs) = refl

pub operand_1 : (j k : Kind) (ks : List Kind) (vs : List Value)
    → value_at (admit_all (j ∷ k ∷ ks) vs) 1 ≡ admit k (value_at vs 1)
operand_1 j k ks [] = zero_or k
operand_1 j k ks (v ∷ vs) = operand_0 k ks vs

pub ruleset operands_are = (operand_0, operand_1)

-- ---- what is computed of operands that are admitted

pub binary_calculated : (whole : Whole) (op : BinaryOp) (ops : List Value)
    → calculate (Binary whole op) (admit_all (calculation_operands (Binary whole op)) ops)
    ≡ binary_value whole op (whole_at (kind_of_whole whole) ops 0)
    (whole_at (kind_of_whole whole) ops 1)
binary_calculated whole op ops =
    let k = kind_of_whole whole in
    λ i. binary_value whole op (number_of (operand_0 k (k ∷ []) ops i))
    (number_of (operand_1 k k [] ops i))

pub shift_calculated : (whole : Whole) (op : ShiftOp) (ops : List Value)
    → calculate (Shift whole op) (admit_all (calculation_operands (Shift whole op)) ops)
    ≡ Some (shifted_value whole op (whole_at (kind_of_whole whole) ops 0) (whole_at IntKind ops 1))
shift_calculated whole op ops =
    let k = kind_of_whole whole in
    λ i. Some (shifted_value whole op (number_of (operand_0 k (IntKind ∷ []) ops i))
    (number_of (operand_1 k IntKind [] ops i)))
