-- The first element of a slice and the others, and what holds of an option's value.
use Rattle.std.proofs.Common.{◌≡◌, ℕ, ◌-◌, ◌≤◌, Option, Some, None, IfSome, List, [], ◌∷◌, length, get_or, take, drop, sym, ap, arith}
use Rattle.std.proofs.lemmas.List.{take_all}

abbrev pub rest_of : List ℕ → List ℕ
rest_of bytes = take (length bytes - 1) (drop 1 bytes)

pub first_and_rest : (bytes : List ℕ) → 1 ≤ length bytes → bytes ≡ get_or bytes 0 0 ∷ rest_of bytes
first_and_rest [] h = absurd (omega arith)
first_and_rest (b ∷ bytes) h = ap (λ s. b ∷ s) (sym (take_all _ bytes (omega arith)))

pub if_some_then : {A : Type 0} (P Q : A → Type 0) (o : Option A) → ((a : A) → P a → Q a) → IfSome o P → IfSome o Q
if_some_then P Q (Some a) then h = then a h
if_some_then P Q None then h = h
