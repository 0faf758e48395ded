-- The parts of a name, read byte by byte.
use Rattle.std.proofs.Common.{◌≡◌, ℕ, ◌+◌, ◌-◌, ◌<◌, ◌≤◌, Bool, true, cond, List, [], ◌∷◌, ◌++◌, length, take, drop, get_or, refl, sym, ap, ◌∙◌, arith, inl, inr, Some, None}
use Rattle.std.specs.Prelude.{slice_range}
use Rattle.std.specs.List.{list_all}
use Rattle.std.proofs.lemmas.List.{take_more, length-drop, get_or-drop}
use Rattle.std.proofs.lemmas.Bool.Decides.{eqb_tells}
use Rattle.std.proofs.lemmas.Str.{encodes-chars}
use Rattle.std.specs.Str.{chars, IsUtf8}
use Rattle.je_base.specs.Encoding.{decoded}
use Rattle.je_pool.specs.Path.{slash, is_part, parts_from, has_parts, with_parts, file_name}

-- all parts pass
abbrev pub all_pass : List ℕ → List ℕ → Bool
all_pass front bytes = list_all is_part (parts_from front bytes)

-- a byte that divides no parts
pub other_byte : (front bytes : List ℕ) (b : ℕ) → (b ≡ slash → ⊥) → all_pass (front ++ b ∷ []) bytes ≡ all_pass front (b ∷ bytes)
other_byte front bytes b h =
    elim (eqb_tells b slash) [ inl same ↦ absurd (h same.1) | inr other ↦ rw other.0 refl ]

-- a byte that ends a part which passes
pub slash_byte : (front bytes : List ℕ) (b : ℕ) → b ≡ slash → is_part front ≡ true → all_pass [] bytes ≡ all_pass front (b ∷ bytes)
slash_byte front bytes b h pass = rw (h, pass) refl

-- one byte more of a part
pub range_more : (xs : List ℕ) (start i d : ℕ) → start ≤ i → i < length xs → slice_range xs start (i + 1) ≡ slice_range xs start i ++ get_or xs i d ∷ []
range_more xs start i d le lt =
    let count : (i + 1) - start ≡ (i - start) + 1 = omega (arith, le) in
    let within : i - start < length (drop start xs) = omega (arith, length-drop start xs, le, lt) in
    let at : get_or (drop start xs) (i - start) d ≡ get_or xs i d = grind (arith, get_or-drop, le) in
    rw count (take_more (drop start xs) (i - start) d within ∙ ap (λ (b : ℕ). take (i - start) (drop start xs) ++ b ∷ []) at)

-- a part that begins here is empty so far
pub range_none : (xs : List ℕ) (i : ℕ) → slice_range xs i i ≡ []
range_none xs i = let none : i - i ≡ 0 = omega arith in rw none refl

-- the name of a text that is a string
pub named_by : (name string : List ℕ) (b : Bool) → decoded name ≡ Some (chars string) → IsUtf8 string → has_parts string ≡ b → cond b (Some string) None ≡ file_name name
named_by name string b found utf8 test =
    rw found (sym (ap with_parts (encodes-chars string utf8) ∙ ap (λ (t : Bool). cond t (Some string) None) test))
