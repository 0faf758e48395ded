-- What is read behind a front joins it.
use Rattle.std.proofs.Common.{◌≡◌, ℕ, ◌+◌, ◌++◌, List, Option, take, take-add, drop, sym, ap, subst, ◌∙◌}
use Rattle.std.proofs.KnownBytes.{Consumes-trans}
use Rattle.std.specs.Io.KnownBytes.{Consumes}

-- the first f bytes were read before, and the next n now
pub Consumes-behind : (a b c : Option (List ℕ)) (old new : List ℕ) (f n : ℕ) → take f new ≡ take f old → Consumes a b (take f old) → Consumes b c (take n (drop f new)) → Consumes a c (take (f + n) new)
Consumes-behind a b c old new f n front before after =
    let all = take-add f n new ∙ ap (λ l. l ++ take n (drop f new)) front in
    subst (Consumes a c) (sym all) (Consumes-trans a b c _ _ before after)
