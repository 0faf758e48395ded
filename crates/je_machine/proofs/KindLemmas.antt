-- What is computed of numbers within the range of their types is within it.
use Rattle.std.proofs.Common.{◌≡◌, ℕ, List, [], ◌∷◌, Some, None, Bool, true, false, refl, subst, arith}
use Rattle.std.specs.Prelude.{IsTrue, ℤ, pos, negsuc, ◌^◌, int_rem, int_lt, FitsSigned, IfSome, if◌then◌else◌}
use Rattle.std.specs.Ordering.{int_eq}
use Rattle.std.specs.Int.{Width, w8, w16, w32, w64, int_wrap, int_shr, int_rem_euclid}
use Rattle.std.proofs.lemmas.Int.{SFits-int_wrap, int_wrap_fits, rem_is}
use Rattle.std.proofs.lemmas.Bool.Decides.{Decides-int_eq}
use borrow.Author.Gap.{read_sfits}
use lib.Pow.{pow_pos}
use Rattle.std.proofs.Math.Nat.{div-le_self, mod-lt}
use Rattle.je_machine.specs.Value.{Kind, IntKind, Value, Int, Long, Flt, Dbl, Null, Obj, Const, is_of_kind, value_at, number_of}
use Rattle.je_machine.specs.Calculation.{Calculation, Binary, Shift, Negate, Extend, Truncate, Keep, CompareLongs, Whole, IntWhole, LongWhole, BinaryOp, Add, Subtract, Multiply, Divide, Remainder, And, Or, Xor, ShiftOp, ShiftLeft, ShiftRight, ShiftRightUnsigned, Part, BytePart, CharPart, ShortPart, kind_of_whole, width_of, value_of_whole, calculation_operands, calculation_result, binary, shifted, kept, has_result, calculate}
use Rattle.je_machine.specs.Acts.{are_of_kinds}
use Rattle.je_machine.proofs.OutsideLemmas.{first_holds, second_holds}

-- ---- a number within the range

pub fits_by : (w : Width) (z : ℤ) → int_eq (int_wrap w z) z ≡ true → FitsSigned w z
fits_by w z e = subst (FitsSigned w) ((Decides-int_eq (int_wrap w z) z).0 e) (SFits-int_wrap w z)

pub by_fits : (w : Width) (z : ℤ) → FitsSigned w z → int_eq (int_wrap w z) z ≡ true
by_fits w z f = (Decides-int_eq (int_wrap w z) z).1 (int_wrap_fits w z f)

value_fits : (whole : Whole) (v : Value) → is_of_kind (kind_of_whole whole) v ≡ true → FitsSigned (width_of whole) (number_of v)
value_fits IntWhole (Int n) e = fits_by w32 n e
value_fits LongWhole (Long n) e = fits_by w64 n e
value_fits IntWhole (Long n) e = absurd cc
value_fits IntWhole (Flt n) e = absurd cc
value_fits IntWhole (Dbl n) e = absurd cc
value_fits IntWhole Null e = absurd cc
value_fits IntWhole (Obj n) e = absurd cc
value_fits IntWhole (Const content) e = absurd cc
value_fits LongWhole (Int n) e = absurd cc
value_fits LongWhole (Flt n) e = absurd cc
value_fits LongWhole (Dbl n) e = absurd cc
value_fits LongWhole Null e = absurd cc
value_fits LongWhole (Obj n) e = absurd cc
value_fits LongWhole (Const content) e = absurd cc

fits_value : (whole : Whole) (z : ℤ) → FitsSigned (width_of whole) z → is_of_kind (kind_of_whole whole) (value_of_whole whole z) ≡ true
fits_value IntWhole z f = by_fits w32 z f
fits_value LongWhole z f = by_fits w64 z f

-- ---- the operations

remainder_fits : (w : Width) (x y : ℤ) → FitsSigned w x → FitsSigned w y → FitsSigned w (int_rem x y)
remainder_fits w x y f g = subst (FitsSigned w) (rem_is w x y f g) (read_sfits w _)

binary_fits : (w : Width) (op : BinaryOp) (x y : ℤ) → FitsSigned w x → FitsSigned w y → FitsSigned w (binary w op x y)
binary_fits w Add x y f g = read_sfits w _
binary_fits w Subtract x y f g = read_sfits w _
binary_fits w Multiply x y f g = read_sfits w _
binary_fits w Divide x y f g = SFits-int_wrap w _
binary_fits w Remainder x y f g = remainder_fits w x y f g
binary_fits w And x y f g = read_sfits w _
binary_fits w Or x y f g = read_sfits w _
binary_fits w Xor x y f g = read_sfits w _

right_fits : (w : Width) (x : ℤ) (k : ℕ) → FitsSigned w x → FitsSigned w (int_shr x k)
right_fits w (pos n) k f = record { sfits = omega (arith, div-le_self n (2 ^ k), f.sfits) }
right_fits w (negsuc n) k f = record { sfits = omega (arith, div-le_self n (2 ^ k), f.sfits) }

shift_fits : (w : Width) (op : ShiftOp) (x : ℤ) (k : ℕ) → FitsSigned w x → FitsSigned w (shifted w op x k)
shift_fits w ShiftLeft x k f = read_sfits w _
shift_fits w ShiftRight x k f = right_fits w x k f
shift_fits w ShiftRightUnsigned x k f = read_sfits w _

-- what fits a part of an int fits an int
byte_fits : (z : ℤ) → FitsSigned w8 z → FitsSigned w32 z
byte_fits z f = record { sfits = omega (arith, f.sfits) }

short_fits : (z : ℤ) → FitsSigned w16 z → FitsSigned w32 z
short_fits z f = record { sfits = omega (arith, f.sfits) }

int_fits : (z : ℤ) → FitsSigned w32 z → FitsSigned w64 z
int_fits z f = record { sfits = omega (arith, f.sfits) }

char_fits : (z : ℤ) → FitsSigned w32 (int_rem_euclid z (pos (2 ^ 16)))
char_fits (pos n) = record { sfits = omega (arith, mod-lt n (pow_pos 16)) }
char_fits (negsuc n) = record { sfits = omega arith }

part_fits : (part : Part) (z : ℤ) → FitsSigned w32 (kept part z)
part_fits BytePart z = byte_fits _ (SFits-int_wrap w8 z)
part_fits CharPart z = char_fits z
part_fits ShortPart z = short_fits _ (SFits-int_wrap w16 z)

by_order : (b c : Bool) → is_of_kind IntKind (Int (if b then negsuc 0 else if c then pos 1 else pos 0)) ≡ true
unfolding int_wrap
by_order true c = refl
by_order false true = refl
by_order false false = refl

-- ---- the operands

pub one : (k : Kind) (ops : List Value) → are_of_kinds (k ∷ []) ops ≡ true → is_of_kind k (value_at ops 0) ≡ true
one k [] e = absurd cc
one k (v ∷ vs) e = first_holds (is_of_kind k v) (are_of_kinds [] vs) e

two : (k l : Kind) (ops : List Value) → are_of_kinds (k ∷ l ∷ []) ops ≡ true → is_of_kind l (value_at ops 1) ≡ true
two k l [] e = absurd cc
two k l (v ∷ vs) e = one l vs (second_holds (is_of_kind k v) (are_of_kinds (l ∷ []) vs) e)

first_of_two : (k l : Kind) (ops : List Value) → are_of_kinds (k ∷ l ∷ []) ops ≡ true → is_of_kind k (value_at ops 0) ≡ true
first_of_two k l [] e = absurd cc
first_of_two k l (v ∷ vs) e = first_holds (is_of_kind k v) (are_of_kinds (l ∷ []) vs) e

-- ---- the whole

if_some : (b : Bool) (v : Value) (P : Value → Type 0) → P v → IfSome (if b then Some v else None) P
if_some true v P h = h
if_some false v P h = tt

pub calculate_keeps : (c : Calculation) (ops : List Value) → are_of_kinds (calculation_operands c) ops ≡ true
    → IfSome (calculate c ops) (λ v. IsTrue (is_of_kind (calculation_result c) v))
calculate_keeps (Binary whole op) ops e =
    let x = number_of (value_at ops 0) in
    let y = number_of (value_at ops 1) in
    let k = kind_of_whole whole in
    let f = value_fits whole (value_at ops 0) (first_of_two k k ops e) in
    let g = value_fits whole (value_at ops 1) (two k k ops e) in
    if_some (has_result op y) (value_of_whole whole (binary (width_of whole) op x y)) (λ v. IsTrue (is_of_kind k v))
    (fits_value whole _ (binary_fits (width_of whole) op x y f g))
calculate_keeps (Shift whole op) ops e =
    fits_value whole _ (shift_fits (width_of whole) op _ _ (value_fits whole (value_at ops 0) (first_of_two (kind_of_whole whole) IntKind ops e)))
calculate_keeps (Negate whole) ops e = fits_value whole _ (read_sfits (width_of whole) _)
calculate_keeps Extend ops e = by_fits w64 _ (int_fits _ (value_fits IntWhole (value_at ops 0) (one IntKind ops e)))
calculate_keeps Truncate ops e = by_fits w32 _ (SFits-int_wrap w32 _)
calculate_keeps (Keep part) ops e = by_fits w32 _ (part_fits part _)
calculate_keeps CompareLongs ops e =
    let x = number_of (value_at ops 0) in
    let y = number_of (value_at ops 1) in
    by_order (int_lt x y) (int_lt y x)
