-- Names and reserved words.
use Rattle.std.proofs.Common.{◌≡◌, ℕ, zero, suc, inl, inr, Bool, true, false, List, [], ◌∷◌, map, refl, ap, arith}
use Rattle.std.specs.Prelude.{Contains, ◌||◌, not}
use Rattle.std.specs.List.{list_any}
use Rattle.std.proofs.lemmas.Bool.{or_cases, or_right, and_parts, false_from_ne_true}
use Rattle.std.proofs.lemmas.Bool.Decides.{nat_tests}
use Rattle.std.proofs.lemmas.Slice.Eq.{bytes_eq-Decides}
use Rattle.je_base.specs.Text.{is_same_text}
use Rattle.je_session.specs.Script.{reserved_words, BeginsName, IsIdent}
use Rattle.je_session.specs.Reading.{is_reserved, begins_name, is_ident}

pub is_same_text-refl : (w : List ℕ) → is_same_text w w ≡ true
is_same_text-refl w = (bytes_eq-Decides w w).1 refl

-- ---- reserved words

any-contained : (words : List (List ℕ)) (w : List ℕ) → Contains words w → list_any (λ word. is_same_text word w) words ≡ true
any-contained [] w (k, within, is) = absurd (omega arith)
any-contained (v ∷ words) w (zero, within, is) = rw (is, is_same_text-refl w) refl
any-contained (v ∷ words) w (suc k, within, is) =
    or_right (is_same_text v w) (list_any (λ word. is_same_text word w) words) (any-contained words w (k, omega arith, is))

Contains-any : (words : List (List ℕ)) (w : List ℕ) → list_any (λ word. is_same_text word w) words ≡ true → Contains words w
Contains-any [] w e = absurd cc
Contains-any (v ∷ words) w e = elim (or_cases (is_same_text v w) (list_any (λ word. is_same_text word w) words) e) [
  | inl here ↦ (0, omega arith, (bytes_eq-Decides v w).0 here)
  | inr later ↦ (let rest = Contains-any words w later in (suc rest.0, omega arith, rest.2))
]

-- a table of words behind references has the words
pub any-behind : {X : Type 0} (view : X → List ℕ) (words : List X) (w : List ℕ)
    → list_any (λ word. is_same_text (view word) w) words ≡ list_any (λ word. is_same_text word w) (map view words)
any-behind view [] w = refl
any-behind view (v ∷ words) w = ap (λ (rest : Bool). is_same_text (view v) w || rest) (any-behind view words w)

Contains-reserved : (w : List ℕ) → is_reserved w ≡ true → Contains reserved_words w
unfolding is_reserved
Contains-reserved w e = Contains-any reserved_words w e

reserved-contained : (w : List ℕ) → Contains reserved_words w → is_reserved w ≡ true
unfolding is_reserved
reserved-contained w h = any-contained reserved_words w h

-- ---- names

BeginsName-begins : (w : List ℕ) → begins_name w ≡ true → BeginsName w
BeginsName-begins [] e = cc
BeginsName-begins (b ∷ w) e = grind (arith, nat_tests)

begins-BeginsName : (w : List ℕ) → BeginsName w → begins_name w ≡ true
begins-BeginsName [] h = absurd h
begins-BeginsName (b ∷ w) h = grind (arith, nat_tests)

not_true : (b : Bool) → not b ≡ true → b ≡ true → ⊥
not_true true e h = cc
not_true false e h = cc

pub IsIdent-is_ident : (w : List ℕ) → is_ident w ≡ true → IsIdent w
IsIdent-is_ident w e =
    let parts = and_parts (begins_name w) (not (is_reserved w)) e in
    (BeginsName-begins w parts.0, λ h. not_true (is_reserved w) parts.1 (reserved-contained w h))

pub is_ident-IsIdent : (w : List ℕ) → IsIdent w → is_ident w ≡ true
is_ident-IsIdent w h =
    rw (begins-BeginsName w h.0, false_from_ne_true (is_reserved w) (λ e. h.1 (Contains-reserved w e))) refl
