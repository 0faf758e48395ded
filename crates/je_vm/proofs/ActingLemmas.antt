-- Operands that are admitted once more, and lengths that are no ints.
use Rattle.std.proofs.Common.{◌≡◌, ℕ, ◌≤◌, ◌^◌, Bool, true, false, List, [], ◌∷◌, refl, sym, ap}
use Rattle.std.proofs.Common.{arith}
use Rattle.std.specs.Prelude.{pos, if◌then◌else◌}
use Rattle.std.specs.Ordering.{int_eq}
use Rattle.std.specs.Int.{w32, int_wrap}
use Rattle.je_machine.specs.Value.{Kind, IntKind, LongKind, FloatKind, DoubleKind, ReferenceKind}
use Rattle.je_machine.specs.Value.{Value, Int, is_of_kind, zero_of, admit, admit_all}
use Rattle.je_machine.proofs.KindLemmas.{fits_by}

zero_again : (k : Kind) → admit k (zero_of k) ≡ zero_of k
unfolding int_wrap
zero_again IntKind = refl
zero_again LongKind = refl
zero_again FloatKind = refl
zero_again DoubleKind = refl
zero_again ReferenceKind = refl

once_by : (k : Kind) (v : Value) (b : Bool) → is_of_kind k v ≡ b
    → admit k (if b then v else zero_of k) ≡ (if b then v else zero_of k)
once_by k v true e = ap {A = Bool} (λ b. if b then v else zero_of k) e
once_by k v false e = zero_again k

once : (k : Kind) (v : Value) → admit k (admit k v) ≡ admit k v
once k v = once_by k v (is_of_kind k v) refl

-- operands that are admitted are admitted as they are
pub again : (ks : List Kind) (vs : List Value) → admit_all ks vs ≡ admit_all ks (admit_all ks vs)
again [] vs = refl
again (k ∷ ks) [] = λ i. sym (zero_again k) i ∷ again ks [] i
again (k ∷ ks) (v ∷ vs) = λ i. sym (once k v) i ∷ again ks vs i

none_by : (n : ℕ) (b : Bool) → int_eq (int_wrap w32 (pos n)) (pos n) ≡ b → 2 ^ 31 ≤ n
    → Int (pos 0) ≡ (if b then Int (pos n) else Int (pos 0))
none_by n true e h = absurd (omega (arith, h, (fits_by w32 (pos n) e).sfits))
none_by n false e h = refl

-- a length that is no int counts as zero
pub none : (n : ℕ) → 2 ^ 31 ≤ n → admit IntKind (Int (pos 0)) ≡ admit IntKind (Int (pos n))
unfolding int_wrap
none n h = none_by n _ refl h
