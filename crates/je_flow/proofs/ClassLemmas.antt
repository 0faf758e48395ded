-- Types by their dimensions and what they have them of.
use Rattle.std.proofs.Common.{◌≡◌, ℕ, zero, suc, ◌<◌, ◌≤◌, List, [], ◌∷◌, ◌++◌, length, refl, ap, sym, ◌∙◌, append_assoc, arith}
use Rattle.je_desc.specs.FieldType.{FieldType, descriptor}
use Rattle.je_base.specs.Ascii.{left_bracket}
use Rattle.je_value.specs.FieldType.{array_of}
use Rattle.je_shape.specs.Slot.{Reference}
use Rattle.je_shape.specs.Flow.{slot_of_type, but_last}

pub of_array : (n : ℕ) (t : FieldType) → 0 < n → slot_of_type (array_of n t) ≡ Reference (descriptor (array_of n t) ∷ [])
of_array zero t h = absurd (omega (arith, h))
of_array (suc n) t h = refl

pub of_no_array : (n : ℕ) (t : FieldType) → n ≤ 0 → slot_of_type (array_of n t) ≡ slot_of_type t
of_no_array zero t h = refl
of_no_array (suc n) t h = absurd (omega (arith, h))

pub ruleset types_are = (of_array, of_no_array)

-- one bracket more, of those that are left
pub bracket_put : (out next : List ℕ) (left fewer bracket : ℕ) (t : FieldType) (all : List ℕ)
    → bracket ≡ left_bracket → next ≡ out ++ bracket ∷ [] → left ≡ suc fewer
    → out ++ descriptor (array_of left t) ≡ all
    → next ++ descriptor (array_of fewer t) ≡ all
bracket_put out next left fewer bracket t all b put e before =
    ap (λ (l : List ℕ). l ++ descriptor (array_of fewer t)) (put ∙ ap (λ (n : ℕ). out ++ n ∷ []) b)
    ∙ append_assoc out (left_bracket ∷ []) (descriptor (array_of fewer t))
    ∙ ap (λ (n : ℕ). out ++ descriptor (array_of n t)) (sym e)
    ∙ before

-- ---- the names of components

but_last_of : (rest : List ℕ) (last : ℕ) → but_last (rest ++ last ∷ []) ≡ rest
but_last_of [] last = refl
but_last_of (x ∷ []) last = refl
but_last_of (x ∷ y ∷ rest) last = ap (λ (l : List ℕ). x ∷ l) (but_last_of (y ∷ rest) last)

pub but_last_is : (all rest : List ℕ) (last : ℕ) → all ≡ rest ++ last ∷ [] → but_last all ≡ rest
but_last_is all rest last e = ap but_last e ∙ but_last_of rest last

pub nothing_but_last : (all : List ℕ) → length all ≡ 0 → but_last all ≡ all
nothing_but_last [] e = refl
nothing_but_last (x ∷ all) e = absurd (omega (arith, e))

pub ruleset fronts = (but_last_is, nothing_but_last)
