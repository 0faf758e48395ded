-- Two lists that fit each other place by place, as a loop makes them.
use Rattle.std.proofs.Common.{◌≡◌, ℕ, ◌+◌, ◌<◌, List, [], ◌∷◌, ◌++◌, length, take, get_or, add-one, subst}
use Rattle.std.proofs.Math.Seq.{take-suc}
use Rattle.std.proofs.lemmas.Slice.Zip.{all_zipped_more}
use Rattle.std.specs.List.{AllZip}

pub AllZip_taken : {A B : Type 0} (R : A → B → Type 0) (xs : List A) (ys : List B) (i : ℕ) (x : A) (y : B) → i < length xs → x ≡ get_or xs i x → AllZip R (take i xs) ys → R x y
    → AllZip R (take (i + 1) xs) (ys ++ y ∷ [])
AllZip_taken R xs ys i x y lt at zipped fits =
    rw (add-one i, take-suc xs i x lt) (all_zipped_more R (take i xs) ys (get_or xs i x) y zipped (subst (λ z. R z y) at fits))
