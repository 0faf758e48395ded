-- A count, and that many structures.
use Rattle.std.proofs.Common.{◌≡◌, ℕ, ◌+◌, ◌-◌, ◌<◌, List, [], ◌∷◌, ◌++◌, length, Ok, Err, sym, ap, subst, ◌∙◌, append_assoc, length-append, refl, arith}
use Rattle.std.proofs.lemmas.List.{append-nil}
use Rattle.je_base.specs.Parts.{U2, each, table_parts}
use Rattle.je_instr.specs.declared.fault.CodeFault.{CodeFault}
use Rattle.je_code.specs.Code.{Part}
use Rattle.je_code.specs.Reading.{Comes}
use Rattle.je_code.specs.Tables.{IsTable}
use Rattle.je_code.proofs.WholeLemmas.{AreParts}
use Rattle.je_code.proofs.Comes.{then, stops, copies, length-copies}

each-append : {A : Type 0} (parts : A → List Part) (xs ys : List A) → each parts (xs ++ ys) ≡ each parts xs ++ each parts ys
each-append parts [] ys = refl
each-append parts (x ∷ xs) ys = ap (λ (t : List Part). parts x ++ t) (each-append parts xs ys) ∙ sym (append_assoc (parts x) (each parts xs) (each parts ys))

-- what a loop that reads the structures has read so far
pub record Stand {A : Type 0} (bytes : List ℕ) (at : ℕ) (parts : A → List Part) (count : ℕ) (xs : List A) (read next : ℕ) : Type 0 where
  pub count_is : length xs ≡ read
  pub comes : Comes bytes at (U2 count [] ∷ each parts xs) (Ok next)

module _ {A : Type 0} (parts : A → List Part) (xs : List A) where
  pub table_more : {bytes : List ℕ} {at count read next after : ℕ} (x : A) → Stand bytes at parts count xs read next → Comes bytes next (parts x) (Ok after)
      → Stand bytes at parts count (xs ++ x ∷ []) (read + 1) after
  table_more {bytes = bytes} {at = at} {count = count} {read = read} {next = next} {after = after} x h k =
      let parts_are : U2 count [] ∷ each parts (xs ++ x ∷ []) ≡ (U2 count [] ∷ each parts xs) ++ parts x = ap (λ (t : List Part). U2 count [] ∷ t) (each-append parts xs (x ∷ []) ∙ ap (λ (t : List Part). each parts xs ++ t) (append-nil (parts x))) in
      record {
        count_is = omega (arith, h.count_is, length-append xs (x ∷ []));
        comes = subst (λ (ps : List Part). Comes bytes at ps (Ok after)) (sym parts_are) (then h.comes k);
      }

  pub table_stops : {bytes : List ℕ} {at count read next : ℕ} {d : CodeFault} (x : A) → Stand bytes at parts count xs read next → read < count → Comes bytes next (parts x) (Err d)
      → (ys : List A) × Comes bytes at (table_parts parts ys) (Err d)
  table_stops {bytes = bytes} {at = at} {count = count} {read = read} {next = next} {d = d} x h lt k =
      let more = copies (count - (read + 1)) x in
      let ys = xs ++ x ∷ more in
      let count_is : length ys ≡ count = omega (arith, h.count_is, length-append xs (x ∷ more), length-copies (count - (read + 1)) x) in
      let parts_are : U2 (length ys) [] ∷ each parts ys ≡ (U2 count [] ∷ each parts xs) ++ (parts x ++ each parts more) = rw count_is (ap (λ (t : List Part). U2 count [] ∷ t) (each-append parts xs (x ∷ more))) in
      (ys, subst (λ (ps : List Part). Comes bytes at ps (Err d)) (sym parts_are) (then h.comes (stops (each parts more) k)))

  pub table_ends : {bytes : List ℕ} {at count read next : ℕ} → Stand bytes at parts count xs read next → read ≡ count → Comes bytes at (table_parts parts xs) (Ok next)
  table_ends {bytes = bytes} {at = at} {count = count} {read = read} {next = next} h all =
      subst (λ (n : ℕ). Comes bytes at (U2 n [] ∷ each parts xs) (Ok next)) (sym (h.count_is ∙ all)) h.comes

-- ---- all of the bytes

module _ {A : Type 0} {parts : A → List Part} {bytes : List ℕ} {xs : List A} where
  pub is_table : AreParts bytes (table_parts parts xs) → IsTable parts bytes xs
  is_table h = record { layout = h.layout; sound = h.sound }

  pub parts_of_table : IsTable parts bytes xs → AreParts bytes (table_parts parts xs)
  parts_of_table h = record { layout = h.layout; sound = h.sound }
