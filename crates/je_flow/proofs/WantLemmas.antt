-- What is wanted, from the top.
use Rattle.std.proofs.Common.{◌≡◌, ◌∙◌, List, [], ◌∷◌, ◌++◌, length, map, reverse, refl, ap, arith}
use Rattle.std.proofs.lemmas.List.{map-append, reverse-append}
use Rattle.je_flow.specs.declared.wants.Want.{Want}
use Rattle.je_shape.specs.Serves as serves
use Rattle.je_flow.specs.Seen.{want_in}

-- the last one is that of the top
pub reversed : (all rest : List Want) (last : Want) → all ≡ rest ++ last ∷ []
    → reverse (map want_in all) ≡ want_in last ∷ reverse (map want_in rest)
reversed all rest last e =
    ap (λ (l : List Want). reverse (map want_in l)) e
    ∙ ap (λ (l : List serves.Want). reverse l) (map-append want_in rest (last ∷ []))
    ∙ reverse-append (map want_in rest) (want_in last ∷ [])

pub none_wanted : (all : List Want) → length all ≡ 0 → reverse (map want_in all) ≡ []
none_wanted [] e = refl
none_wanted (w ∷ all) e = absurd (omega (arith, e))

pub ruleset wanted = (reversed, none_wanted)
