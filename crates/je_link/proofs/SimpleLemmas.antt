-- Opcodes that do not stand alone.
use Rattle.std.proofs.Common.{◌≡◌, ◌≢◌, ℕ, ◌+◌, ◌<◌, ◌≤◌, ◌⊎◌, Bool, true, false, ◌&&◌, ◌||◌, Option, Some, None, is_some, refl, ◌∙◌, inl, inr, arith}
use Rattle.std.proofs.lemmas.Bool.{cases_lt, lt-leb}
use Rattle.std.specs.Prelude.{nat_le}
use Rattle.je_machine.specs.Operation.{Operation}
use Rattle.je_instr.specs.Opcodes.{simple_operation}
use Rattle.je_instr.specs.Rows.{is_within}
use Rattle.je_instr.proofs.RowLemmas.{simple_is}

-- it is below the first or above the last
abbrev pub IsOutside : ℕ → ℕ → ℕ → Type 0
IsOutside first last n = (n < first) ⊎ (last < n)

and_false : (b : Bool) → (b && false) ≡ false
and_false true = refl
and_false false = refl

outside : (first last n : ℕ) → IsOutside first last n → is_within first last n ≡ false
outside first last n (inl below) = rw (lt-leb first n below) refl
outside first last n (inr above) = rw (lt-leb n last above) (and_false (nat_le first n))

pub neither : (first last n : ℕ) → last ≡ first + 1 → n ≢ first → n ≢ last → IsOutside first last n
neither first last n next a b = by_side (cases_lt n first) where
  by_side : (n < first) ⊎ (first ≤ n) → IsOutside first last n
  by_side (inl lt) = inl lt
  by_side (inr le) = inr (omega (arith, le, next, a, b))

all_false : (a b c d e f g h : Bool) → a ≡ false → b ≡ false → c ≡ false → d ≡ false → e ≡ false → f ≡ false → g ≡ false → h ≡ false → (a || b || c || d || e || f || g || h) ≡ false
all_false a b c d e f g h ea eb ec ed ee ef eg eh = rw (ea, eb, ec, ed, ee, ef, eg, eh) refl

none_is : (o : Option Operation) → is_some o ≡ false → None ≡ o
none_is None e = refl
none_is (Some x) e = absurd cc

pub no_simple : (n : ℕ) → IsOutside 0 1 n → IsOutside 9 15 n → IsOutside 46 53 n → IsOutside 79 131 n → IsOutside 133 152 n → IsOutside 172 177 n → IsOutside 190 191 n → IsOutside 194 195 n → None ≡ simple_operation n
no_simple n a b c d e f g h =
    none_is (simple_operation n) (simple_is n ∙ all_false (is_within 0 1 n) (is_within 9 15 n) (is_within 46 53 n) (is_within 79 131 n) (is_within 133 152 n) (is_within 172 177 n) (is_within 190 191 n) (is_within 194 195 n)
    (outside 0 1 n a) (outside 9 15 n b) (outside 46 53 n c) (outside 79 131 n d) (outside 133 152 n e) (outside 172 177 n f) (outside 190 191 n g) (outside 194 195 n h))
