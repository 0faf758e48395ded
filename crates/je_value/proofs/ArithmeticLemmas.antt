-- Numbers of ints and longs that are cut to fewer bits, and quotients.
use Rattle.std.proofs.Common.{◌≡◌, ℕ, zero, suc, ◌<◌, ◌≤◌, ◌^◌, ◌/◌, Bool, true, false, Some, None}
use Rattle.std.proofs.Common.{refl, sym, ap, ◌∙◌, arith}
use Rattle.std.specs.Prelude.{ℤ, pos, negsuc, neg_ℤ, int_div, unsigned_abs, FitsSigned}
use Rattle.std.specs.Prelude.{if◌then◌else◌}
use Rattle.std.specs.Option.{option_map}
use Rattle.std.specs.Int.{Width, w8, w16, w32, w64, w128, cast_signed, cast_unsigned, int_wrap}
use Rattle.std.specs.Int.{int_rem_euclid, int_wrapping_div}
use Rattle.std.proofs.lemmas.Int.{to_z-of_z}
use Rattle.std.proofs.Math.Nat.{div-le_self, mod-eq_of_lt}
use mir.Val.{bits, hbits}

-- a number that is cut to the bits of v by its remainder
pub low_bits : (w v : Width) (n r s : ℤ) → FitsSigned w n → FitsSigned w r
    → r ≡ int_rem_euclid (cast_signed w (cast_unsigned w n)) (pos (2 ^ bits v))
    → s ≡ cast_signed v (unsigned_abs (cast_signed w (cast_unsigned w r))) → s ≡ int_wrap v n
unfolding int_wrap
low_bits w v n r s f g e d =
    let same = ap (λ x. int_rem_euclid x (pos (2 ^ bits v))) (to_z-of_z w n f) in
    d ∙ ap (λ x. cast_signed v (unsigned_abs x)) (to_z-of_z w r g ∙ e ∙ same)

-- a number that fits v, and so an int, is an int
pub as_int : (v : Width) (s : ℤ) → FitsSigned v s → FitsSigned w32 s
    → cast_signed w32 (cast_unsigned w32 (cast_signed v (cast_unsigned v s))) ≡ s
as_int v s f g = ap (λ x. cast_signed w32 (cast_unsigned w32 x)) (to_z-of_z v s f)
    ∙ to_z-of_z w32 s g

-- ---- a quotient of numbers that fit wraps as the definition wraps it

negated : (q : ℕ) → unsigned_abs (neg_ℤ (pos q)) ≡ q
negated zero = refl
negated (suc q) = refl

quotient_below : (x y : ℤ) → unsigned_abs (int_div x y) ≤ unsigned_abs x
quotient_below (pos a) (pos b) = div-le_self a b
quotient_below (pos a) (negsuc b) = rw (negated (a / suc b)) (div-le_self a (suc b))
quotient_below (negsuc a) (pos b) = rw (negated (suc a / b)) (div-le_self (suc a) b)
quotient_below (negsuc a) (negsuc b) = div-le_self (suc a) (suc b)

low : (w : Width) (z : ℤ) → unsigned_abs z < 2 ^ bits w
    → cast_signed w (cast_unsigned w z) ≡ int_wrap w z
unfolding int_wrap
low w (pos n) h = ap (cast_signed w) (sym (mod-eq_of_lt h))
low w (negsuc a) h =
    let m : a < 2 ^ bits w = omega (arith, h) in
    let e = mod-eq_of_lt m in ap (cast_signed w) (omega (arith, e))

half_below : (w : Width) → 2 ^ hbits w < 2 ^ bits w
half_below w8 = omega arith
half_below w16 = omega arith
half_below w32 = omega arith
half_below w64 = omega arith
half_below w128 = omega arith

size_below : (w : Width) (z : ℤ) → FitsSigned w z → unsigned_abs z ≤ 2 ^ hbits w
size_below w (pos n) f = omega (arith, f.sfits)
size_below w (negsuc n) f = omega (arith, f.sfits)

quotient_is : (w : Width) (x y : ℤ) → FitsSigned w x
    → int_wrapping_div w x y ≡ int_wrap w (int_div x y)
quotient_is w x y f =
    low w (int_div x y)
    (omega (arith, quotient_below x y, size_below w x f, half_below w))

-- the answer of a call that divides
pub quotient_came : (w : Width) (x y q : ℤ) → FitsSigned w x → FitsSigned w y → FitsSigned w q
    → q ≡ int_wrapping_div w (cast_signed w (cast_unsigned w x)) (cast_signed w (cast_unsigned w y))
    → cast_signed w (cast_unsigned w q) ≡ int_wrap w (int_div x y)
quotient_came w x y q f g h e =
    to_z-of_z w q h ∙ e ∙ (λ i. int_wrapping_div w (to_z-of_z w x f i) (to_z-of_z w y g i))
    ∙ quotient_is w x y f

-- ---- what is computed, if anything is

pub mapped : {A B : Type 0} (f : A → B) (b : Bool) (x : A)
    → option_map f (if b then Some x else None) ≡ (if b then Some (f x) else None)
mapped f true x = refl
mapped f false x = refl
