-- Serves private functions: a name that is put where it belongs in the order of bytes.
use Rattle.std.specs.Prelude.{ℕ, List, [], ◌∷◌}
use Rattle.std.specs.declared.cmp.Ordering.{Ordering}
use Rattle.std.specs.declared.cmp.Ordering.TheVariants.{Less, Equal, Greater}
use Rattle.std.specs.Cmp.Lexicographic.{slice_cmp}
use Rattle.std.specs.Ordering.{nat_cmp}

-- by how the name compares with the first, before others behind which it was put in
abbrev pub placed : Ordering → List ℕ → List ℕ → List (List ℕ) → List (List ℕ) → List (List ℕ)
placed Less name first rest more = name ∷ first ∷ rest
placed Equal name first rest more = first ∷ rest
placed Greater name first rest more = first ∷ more

abbrev pub inserted : List ℕ → List (List ℕ) → List (List ℕ)
inserted name [] = name ∷ []
inserted name (first ∷ rest) =
    placed (slice_cmp nat_cmp name first) name first rest (inserted name rest)
