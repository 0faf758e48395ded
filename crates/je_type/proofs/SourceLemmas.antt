-- The name of a class in source is in modified UTF-8 where its name in internal form is.
use Rattle.std.proofs.Common.{◌≡◌, ℕ, ◌≤◌, List, [], ◌∷◌, ◌++◌, map, refl, ap, ◌∙◌, arith}
use Rattle.std.specs.List.{AllByRecursion, flat_map}
use Rattle.std.proofs.lemmas.Bool.Decides.{nat_tests}
use Rattle.std.proofs.lemmas.List.{map-append}
use Rattle.je_base.specs.Text.{IsSingle, IsUnit, IsModifiedUtf8}
use Rattle.je_type.specs.Source.{source_byte}

single_byte : (b : ℕ) → IsSingle b → IsSingle (source_byte b)
single_byte b h = (grind (arith, nat_tests), grind (arith, nat_tests))

-- the other bytes stay
stays : (b : ℕ) → 0x80 ≤ b → source_byte b ≡ b
stays b h = grind (arith, nat_tests)

unit_in_source : (u : List ℕ) → IsUnit u → IsUnit (map source_byte u)
unit_in_source [] h = absurd h
unit_in_source (a ∷ []) h = single_byte a h
unit_in_source (a ∷ b ∷ []) h = rw (stays a (omega arith), stays b (omega arith)) h
unit_in_source (a ∷ b ∷ c ∷ []) h = rw (stays a (omega arith), stays b (omega arith), stays c (omega arith)) h
unit_in_source (a ∷ b ∷ c ∷ d ∷ u) h = absurd h

units_in_source : (units : List (List ℕ)) → AllByRecursion IsUnit units → AllByRecursion IsUnit (map (map source_byte) units)
units_in_source [] h = tt
units_in_source (u ∷ units) h = (unit_in_source u h.0, units_in_source units h.1)

joined_in_source : (units : List (List ℕ))
    → map source_byte (flat_map (λ unit. unit) units) ≡ flat_map (λ unit. unit) (map (map source_byte) units)
joined_in_source [] = refl
joined_in_source (u ∷ units) =
    map-append source_byte u (flat_map (λ unit. unit) units)
    ∙ ap (λ (l : List ℕ). map source_byte u ++ l) (joined_in_source units)

pub name_in_source : (name : List ℕ) → IsModifiedUtf8 name → IsModifiedUtf8 (map source_byte name)
name_in_source name h = (
  map (map source_byte) h.0,
  units_in_source h.0 h.1,
  ap (map source_byte) h.2 ∙ joined_in_source h.0,
)
