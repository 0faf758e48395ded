-- What holds of all of several lists, one after the other.
use Rattle.std.proofs.Common.{List, [], ◌∷◌, ◌++◌}
use Rattle.std.specs.List.{AllByRecursion}
use Rattle.je_base.specs.Parts.{each}
use Rattle.je_class.specs.FileParts.{Part}

pub all_split : {A : Type 0} (P : A → Type 0) (xs ys : List A) → AllByRecursion P (xs ++ ys) → AllByRecursion P xs × AllByRecursion P ys
all_split P [] ys h = (tt, h)
all_split P (x ∷ xs) ys h = let s = all_split P xs ys h.1 in ((h.0, s.0), s.1)

pub all_join : {A : Type 0} (P : A → Type 0) (xs ys : List A) → AllByRecursion P xs → AllByRecursion P ys → AllByRecursion P (xs ++ ys)
all_join P [] ys h k = k
all_join P (x ∷ xs) ys h k = (h.0, all_join P xs ys h.1 k)

module _ {A : Type 0} (P : Part → Type 0) (parts : A → List Part) (Q : A → Type 0) (gives : (x : A) → AllByRecursion P (parts x) → Q x) where
  pub all_each : (xs : List A) → AllByRecursion P (each parts xs) → AllByRecursion Q xs
  all_each [] h = tt
  all_each (x ∷ xs) h = let s = all_split P (parts x) (each parts xs) h in (gives x s.0, all_each xs s.1)
