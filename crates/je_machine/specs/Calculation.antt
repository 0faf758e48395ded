-- What the instructions on ints and longs compute (JVMS 2.11.3, 2.11.4 and 6.5).
use Rattle.std.specs.Prelude.{ℕ, ◌^◌, ◌/◌, ℤ, pos, negsuc, List, [], ◌∷◌, Option, Some, None, Bool}
use Rattle.std.specs.Prelude.{true, not, int_lt, int_div, int_rem, unsigned_abs, if◌then◌else◌}
use Rattle.std.specs.Ordering.{int_eq}
use Rattle.std.specs.Int.{Width, w8, w16, w32, w64, cast_signed, cast_unsigned, int_wrap}
use Rattle.std.specs.Int.{int_rem_euclid, int_wrapping_add, int_wrapping_sub, int_wrapping_mul}
use Rattle.std.specs.Int.{int_wrapping_neg, int_bit_and, int_bit_or, int_bit_xor, int_shl, int_shr}
use Rattle.je_machine.specs.Value.{Kind, IntKind, LongKind, Value, Int, Long, number_of, value_at}

-- which of the two whole types
pub data Whole : Type 0 where
  IntWhole : Whole
  LongWhole : Whole

pub data BinaryOp : Type 0 where
  Add : BinaryOp
  Subtract : BinaryOp
  Multiply : BinaryOp
  Divide : BinaryOp
  Remainder : BinaryOp
  And : BinaryOp
  Or : BinaryOp
  Xor : BinaryOp

pub data ShiftOp : Type 0 where
  ShiftLeft : ShiftOp
  ShiftRight : ShiftOp
  ShiftRightUnsigned : ShiftOp

-- what is kept of an int by i2b, i2c and i2s
pub data Part : Type 0 where
  BytePart : Part
  CharPart : Part
  ShortPart : Part

pub data Calculation : Type 0 where
  -- iadd to lrem, iand to lxor
  Binary : (whole : Whole) (op : BinaryOp) → Calculation
  -- ishl to lushr
  Shift : (whole : Whole) (op : ShiftOp) → Calculation
  -- ineg, lneg
  Negate : (whole : Whole) → Calculation
  -- i2l
  Extend : Calculation
  -- l2i
  Truncate : Calculation
  -- i2b, i2c, i2s
  Keep : (part : Part) → Calculation
  -- lcmp
  CompareLongs : Calculation

abbrev pub kind_of_whole : Whole → Kind
kind_of_whole IntWhole = IntKind
kind_of_whole LongWhole = LongKind

abbrev pub width_of : Whole → Width
width_of IntWhole = w32
width_of LongWhole = w64

abbrev pub bits_of : Whole → ℕ
bits_of IntWhole = 32
bits_of LongWhole = 64

abbrev pub value_of_whole : Whole → ℤ → Value
value_of_whole IntWhole n = Int n
value_of_whole LongWhole n = Long n

-- the kinds of the operands, the deepest first
abbrev pub calculation_operands : Calculation → List Kind
calculation_operands (Binary whole op) = kind_of_whole whole ∷ kind_of_whole whole ∷ []
calculation_operands (Shift whole op) = kind_of_whole whole ∷ IntKind ∷ []
calculation_operands (Negate whole) = kind_of_whole whole ∷ []
calculation_operands Extend = IntKind ∷ []
calculation_operands Truncate = LongKind ∷ []
calculation_operands (Keep part) = IntKind ∷ []
calculation_operands CompareLongs = LongKind ∷ LongKind ∷ []

abbrev pub calculation_result : Calculation → Kind
calculation_result (Binary whole op) = kind_of_whole whole
calculation_result (Shift whole op) = kind_of_whole whole
calculation_result (Negate whole) = kind_of_whole whole
calculation_result Extend = LongKind
calculation_result _ = IntKind

-- Sums, differences, products and quotients keep the low bits. A quotient is truncated towards
-- zero, and a remainder has the sign of the dividend; the least number by -1 gives itself, and 0
-- remains.
abbrev pub binary : Width → BinaryOp → ℤ → ℤ → ℤ
binary w Add x y = int_wrapping_add w x y
binary w Subtract x y = int_wrapping_sub w x y
binary w Multiply x y = int_wrapping_mul w x y
binary w Divide x y = int_wrap w (int_div x y)
binary w Remainder x y = int_rem x y
binary w And x y = int_bit_and w x y
binary w Or x y = int_bit_or w x y
binary w Xor x y = int_bit_xor w x y

-- the distance of a shift: its low five bits of an int's, its low six bits of a long's
abbrev pub distance : Whole → ℤ → ℕ
distance whole n = unsigned_abs (int_rem_euclid n (pos (bits_of whole)))

abbrev pub shifted : Width → ShiftOp → ℤ → ℕ → ℤ
shifted w ShiftLeft x k = int_shl w x k
shifted w ShiftRight x k = int_shr x k
shifted w ShiftRightUnsigned x k = cast_signed w (cast_unsigned w x / 2 ^ k)

abbrev pub kept : Part → ℤ → ℤ
kept BytePart n = int_wrap w8 n
kept CharPart n = int_rem_euclid n (pos (2 ^ 16))
kept ShortPart n = int_wrap w16 n

-- 1, 0 or -1 as the first is greater, equal or less
abbrev pub compared : ℤ → ℤ → ℤ
compared x y = if int_lt x y then negsuc 0 else if int_lt y x then pos 1 else pos 0

-- by zero there is neither a quotient nor a remainder
abbrev pub has_result : BinaryOp → ℤ → Bool
has_result Divide y = not (int_eq y (pos 0))
has_result Remainder y = not (int_eq y (pos 0))
has_result op y = true

-- what is computed of operands of the right kinds; none where an int or a long is divided by zero
abbrev pub calculate : Calculation → List Value → Option Value
calculate (Binary whole op) operands =
    let x = number_of (value_at operands 0) in
    let y = number_of (value_at operands 1) in
    if has_result op y then Some (value_of_whole whole (binary (width_of whole) op x y)) else None
calculate (Shift whole op) operands =
    let x = number_of (value_at operands 0) in
    let k = distance whole (number_of (value_at operands 1)) in
    Some (value_of_whole whole (shifted (width_of whole) op x k))
calculate (Negate whole) operands =
    Some (value_of_whole whole
    (int_wrapping_neg (width_of whole) (number_of (value_at operands 0))))
calculate Extend operands = Some (Long (number_of (value_at operands 0)))
calculate Truncate operands = Some (Int (int_wrap w32 (number_of (value_at operands 0))))
calculate (Keep part) operands = Some (Int (kept part (number_of (value_at operands 0))))
calculate CompareLongs operands =
    Some (Int (compared (number_of (value_at operands 0)) (number_of (value_at operands 1))))
