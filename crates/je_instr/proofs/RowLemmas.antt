-- Which opcodes stand alone.
use Rattle.std.proofs.Common.{◌≡◌, ℕ, zero, suc, ◌+◌, ◌<◌, ◌≤◌, Bool, true, false, not, cond, ◌&&◌}
use Rattle.std.proofs.Common.{◌||◌, nat_lt, nat_eq, List, [], ◌∷◌, Some, None, is_some, option_map}
use Rattle.std.proofs.Common.{refl, sym, ap, subst, ◌∙◌, ◌⊎◌, inl, inr, arith}
use Rattle.std.specs.List.{find}
use Rattle.std.proofs.lemmas.Bool.{cases_lt, lt-leb, le-leb, eqb-true, leb-true}
use Rattle.je_instr.specs.Opcodes.{beside, simple_operations, simple_operation}
use Rattle.je_instr.specs.Rows.{is_within, is_simple}

both : (a b : Bool) → (a && b) ≡ true → (a ≡ true) × (b ≡ true)
both true b e = (refl, e)
both false b e = absurd cc

-- ---- below a limit: each one is tried

abbrev pub is_same : Bool → Bool → Bool
is_same true b = b
is_same false b = not b

pub same_is : (a b : Bool) → is_same a b ≡ true → a ≡ b
same_is true true e = refl
same_is true false e = absurd cc
same_is false true e = absurd cc
same_is false false e = refl

abbrev pub all_from : (ℕ → Bool) → ℕ → ℕ → Bool
all_from p zero from = true
all_from p (suc count) from = p from && all_from p count (suc from)

pub each_from : (p : ℕ → Bool) (k count from : ℕ) → k < count → all_from p count from ≡ true → p (from + k) ≡ true
each_from p k zero from lt e = absurd (omega (arith, lt))
each_from p zero (suc count) from lt e =
    subst (λ (n : ℕ). p n ≡ true) (omega arith) (both (p from) (all_from p count (suc from)) e).0
each_from p (suc k) (suc count) from lt e =
    subst (λ (n : ℕ). p n ≡ true) (omega arith) (each_from p k count (suc from) (omega (arith, lt)) (both (p from) (all_from p count (suc from)) e).1)

abbrev is_told : ℕ → Bool
is_told n = is_same (is_some (simple_operation n)) (is_simple n)

all_told : all_from is_told 256 0 ≡ true
unfolding simple_operations
all_told = refl

-- ---- from the limit on there is none

abbrev keys_below : {A : Type 0} → List (ℕ × A) → ℕ → Bool
keys_below [] limit = true
keys_below (row ∷ table) limit = nat_lt row.0 limit && keys_below table limit

apart : (a b : ℕ) → a < b → nat_eq a b ≡ false
apart a b lt = by_test (nat_eq a b) refl where
  by_test : (t : Bool) → nat_eq a b ≡ t → nat_eq a b ≡ false
  by_test true e = let same = eqb-true a b e in absurd (omega (arith, same, lt))
  by_test false e = e

beside_none : {A : Type 0} (table : List (ℕ × A)) (limit n : ℕ) → keys_below table limit ≡ true → limit ≤ n → beside table n ≡ None
beside_none [] limit n below past = refl
beside_none {A = A} (row ∷ table) limit n below past =
    let tests = both (nat_lt row.0 limit) (keys_below table limit) below in
    let less : row.0 < limit = leb-true (suc row.0) limit tests.0 in
    subst (λ (b : Bool). option_map (λ (r : ℕ × A). r.1) (cond b (Some row) (find (λ (r : ℕ × A). nat_eq r.0 n) table)) ≡ None) (sym (apart row.0 n (omega (arith, less)))) (beside_none table limit n tests.1 past)

all_below : keys_below simple_operations 256 ≡ true
unfolding simple_operations
all_below = refl

outside : (first last n : ℕ) → first ≤ n → last < n → is_within first last n ≡ false
outside first last n a b = rw (le-leb first n a, lt-leb n last b) refl

none_of : (a b c d e f g h : Bool) → a ≡ false → b ≡ false → c ≡ false → d ≡ false → e ≡ false → f ≡ false → g ≡ false → h ≡ false
    → (a || b || c || d || e || f || g || h) ≡ false
none_of a b c d e f g h ea eb ec ed ee ef eg eh = rw (ea, eb, ec, ed, ee, ef, eg, eh) refl

past_all : (n : ℕ) → 256 ≤ n → is_simple n ≡ false
past_all n past =
    none_of (is_within 0 1 n) (is_within 9 15 n) (is_within 46 53 n) (is_within 79 131 n) (is_within 133 152 n) (is_within 172 177 n) (is_within 190 191 n) (is_within 194 195 n)
    (outside 0 1 n (omega arith) (omega (arith, past))) (outside 9 15 n (omega (arith, past)) (omega (arith, past))) (outside 46 53 n (omega (arith, past)) (omega (arith, past)))
    (outside 79 131 n (omega (arith, past)) (omega (arith, past))) (outside 133 152 n (omega (arith, past)) (omega (arith, past))) (outside 172 177 n (omega (arith, past)) (omega (arith, past)))
    (outside 190 191 n (omega (arith, past)) (omega (arith, past))) (outside 194 195 n (omega (arith, past)) (omega (arith, past)))

pub simple_is : (n : ℕ) → is_some (simple_operation n) ≡ is_simple n
simple_is n = by_limit (cases_lt n 256) where
  by_limit : (n < 256) ⊎ (256 ≤ n) → is_some (simple_operation n) ≡ is_simple n
  by_limit (inl lt) = same_is (is_some (simple_operation n)) (is_simple n) (subst (λ (m : ℕ). is_told m ≡ true) (omega arith) (each_from is_told n 256 0 lt all_told))
  by_limit (inr past) = ap is_some (beside_none simple_operations 256 n all_below past) ∙ sym (past_all n past)
