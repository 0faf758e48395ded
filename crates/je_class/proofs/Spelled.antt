-- The bytes of parts, one after the other.
use Rattle.std.proofs.Common.{◌≡◌, ℕ, zero, suc, ◌+◌, ◌<◌, Result, Ok, Err, OnOk, List, [], ◌∷◌, ◌++◌, length, take, get_or, add-one, refl, sym, ap, append_assoc, ◌∙◌}
use Rattle.std.proofs.Math.Seq.{take-suc}
use Rattle.std.proofs.lemmas.List.{append-nil}
use Rattle.je_base.specs.Parts.{part_bytes, each}
use Rattle.je_class.specs.FileParts.{class_format, Part, spelled}

pub spelled-append : (ps qs : List Part) → spelled (ps ++ qs) ≡ spelled ps ++ spelled qs
spelled-append [] qs = refl
spelled-append (p ∷ ps) qs = ap (λ bytes. part_bytes class_format p ++ bytes) (spelled-append ps qs) ∙ sym (append_assoc (part_bytes class_format p) (spelled ps) (spelled qs))

module _ {A : Type 0} (parts : A → List Part) where
  spelled-each : (xs : List A) (x : A) → spelled (each parts (xs ++ x ∷ [])) ≡ spelled (each parts xs) ++ spelled (parts x)
  spelled-each [] x = ap spelled (append-nil (parts x))
  spelled-each (y ∷ xs) x =
      spelled-append (parts y) (each parts (xs ++ x ∷ []))
      ∙ ap (λ bytes. spelled (parts y) ++ bytes) (spelled-each xs x)
      ∙ sym (append_assoc (spelled (parts y)) (spelled (each parts xs)) (spelled (parts x)))
      ∙ ap (λ bytes. bytes ++ spelled (parts x)) (sym (spelled-append (parts y) (each parts xs)))

  -- what a loop that puts the structures has put, and one more
  pub put_more : (front count old new : List ℕ) (xs : List A) (i : ℕ) (x : A) → i < length xs → x ≡ get_or xs i x → old ≡ front ++ (count ++ spelled (each parts (take i xs))) → new ≡ old ++ spelled (parts x)
      → new ≡ front ++ (count ++ spelled (each parts (take (i + 1) xs)))
  put_more front count old new xs i x lt item before now =
      let so_far = spelled (each parts (take i xs)) in
      let taken : take (i + 1) xs ≡ take i xs ++ x ∷ [] = rw (add-one i, take-suc xs i x lt) (ap (λ (y : A). take i xs ++ y ∷ []) (sym item)) in
      let more : spelled (each parts (take (i + 1) xs)) ≡ so_far ++ spelled (parts x) = ap (λ (ys : List A). spelled (each parts ys)) taken ∙ spelled-each (take i xs) x in
      let joined : (front ++ (count ++ so_far)) ++ spelled (parts x) ≡ front ++ (count ++ (so_far ++ spelled (parts x))) = simp append_assoc refl in
      now ∙ ap (λ bytes. bytes ++ spelled (parts x)) before ∙ joined ∙ ap (λ bytes. front ++ (count ++ bytes)) (sym more)

pub get_or-self : {A : Type 0} (xs : List A) (i : ℕ) (x : A) → get_or xs i x ≡ get_or xs i (get_or xs i x)
get_or-self [] i x = refl
get_or-self (y ∷ xs) zero x = refl
get_or-self (y ∷ xs) (suc i) x = get_or-self xs i x

-- ---- several puts in a row

-- what holds where the last one was made
pub then_ok : {A E : Type 0} (r : Result A E) (P Q : Type 0) → OnOk r P → (P → Q) → OnOk r Q
then_ok (Ok x) P Q h so = so h
then_ok (Err e) P Q h so = h

pub put_four : (old a b c d first second third new : List ℕ) → first ≡ old ++ a → second ≡ first ++ b → third ≡ second ++ c → new ≡ third ++ d → new ≡ old ++ (a ++ (b ++ (c ++ d)))
put_four old a b c d first second third new e f g h = rw (h, g, f, e) (simp append_assoc refl)

pub spelled-four : (a b c d : List Part) → spelled (a ++ (b ++ (c ++ d))) ≡ spelled a ++ (spelled b ++ (spelled c ++ spelled d))
spelled-four a b c d =
    spelled-append a (b ++ (c ++ d))
    ∙ ap (λ bytes. spelled a ++ bytes) (spelled-append b (c ++ d) ∙ ap (λ bytes. spelled b ++ bytes) (spelled-append c d))
