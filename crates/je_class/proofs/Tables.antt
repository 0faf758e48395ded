-- A count, and that many structures.
use Rattle.std.proofs.Common.{◌≡◌, ℕ, zero, suc, ◌+◌, ◌-◌, ◌^◌, ◌<◌, List, [], ◌∷◌, ◌++◌, length, drop, Ok, Err, refl, sym, ap, subst, ◌∙◌, append_assoc, length-append, arith, inl}
use Rattle.std.proofs.lemmas.List.{append-nil}
use Rattle.je_consts.specs.declared.place.Place.{Place}
use Rattle.je_base.specs.Bytes.{u4, IsThere}
use Rattle.je_class.specs.declared.fault.ClassFault.{ClassFault}
use Rattle.je_class.specs.declared.fault.ClassFault.TheVariants.{Truncated}
use Rattle.je_class.specs.declared.member.Attribute.{Attribute}
use Rattle.je_base.specs.Parts.{U2, each, table_parts}
use Rattle.je_class.specs.FileParts.{NamesAttribute, Part, attribute_parts}
use Rattle.je_class.specs.Reading.{Comes}
use Rattle.je_class.proofs.Comes.{then, stops, u4_comes}

-- so many times the same
abbrev copies : {A : Type 0} → ℕ → A → List A
copies zero x = []
copies (suc n) x = x ∷ copies n x

length-copies : {A : Type 0} (n : ℕ) (x : A) → length (copies n x) ≡ n
length-copies zero x = refl
length-copies (suc n) x = ap suc (length-copies n x)

each-append : {A : Type 0} (parts : A → List Part) (xs ys : List A) → each parts (xs ++ ys) ≡ each parts xs ++ each parts ys
each-append parts [] ys = refl
each-append parts (x ∷ xs) ys = ap (λ (t : List Part). parts x ++ t) (each-append parts xs ys) ∙ sym (append_assoc (parts x) (each parts xs) (each parts ys))

-- what a loop that reads the structures has read so far
pub record Stand {A : Type 0} (bytes : List ℕ) (at : ℕ) (parts : A → List Part) (count : ℕ) (xs : List A) (read next : ℕ) : Type 0 where
  pub count_is : length xs ≡ read
  pub comes : Comes bytes at (U2 count [] ∷ each parts xs) (Ok next)

module _ {A : Type 0} (parts : A → List Part) (xs : List A) where
  pub table_more : {bytes : List ℕ} {at count read next after : ℕ} (x : A) → Stand bytes at parts count xs read next → Comes bytes next (parts x) (Ok after)
      → Stand bytes at parts count (xs ++ x ∷ []) (read + 1) after
  table_more {bytes = bytes} {at = at} {count = count} {read = read} {next = next} {after = after} x h k =
      let parts_are : U2 count [] ∷ each parts (xs ++ x ∷ []) ≡ (U2 count [] ∷ each parts xs) ++ parts x = ap (λ (t : List Part). U2 count [] ∷ t) (each-append parts xs (x ∷ []) ∙ ap (λ (t : List Part). each parts xs ++ t) (append-nil (parts x))) in
      record {
        count_is = omega (arith, h.count_is, length-append xs (x ∷ []));
        comes = subst (λ (ps : List Part). Comes bytes at ps (Ok after)) (sym parts_are) (then h.comes k);
      }

  pub table_stops : {bytes : List ℕ} {at count read next : ℕ} {d : ClassFault} (x : A) → Stand bytes at parts count xs read next → read < count → Comes bytes next (parts x) (Err d)
      → (ys : List A) × Comes bytes at (table_parts parts ys) (Err d)
  table_stops {bytes = bytes} {at = at} {count = count} {read = read} {next = next} {d = d} x h lt k =
      let more = copies (count - (read + 1)) x in
      let ys = xs ++ x ∷ more in
      let count_is : length ys ≡ count = omega (arith, h.count_is, length-append xs (x ∷ more), length-copies (count - (read + 1)) x) in
      let parts_are : U2 (length ys) [] ∷ each parts ys ≡ (U2 count [] ∷ each parts xs) ++ (parts x ++ each parts more) = rw count_is (ap (λ (t : List Part). U2 count [] ∷ t) (each-append parts xs (x ∷ more))) in
      (ys, subst (λ (ps : List Part). Comes bytes at ps (Err d)) (sym parts_are) (then h.comes (stops (each parts more) k)))

  pub table_ends : {bytes : List ℕ} {at count read next : ℕ} → Stand bytes at parts count xs read next → read ≡ count → Comes bytes at (table_parts parts xs) (Ok next)
  table_ends {bytes = bytes} {at = at} {count = count} {read = read} {next = next} h all =
      subst (λ (n : ℕ). Comes bytes at (U2 n [] ∷ each parts xs) (Ok next)) (sym (h.count_is ∙ all)) h.comes

-- an attribute whose bytes are cut off
pub attribute_cut : {bytes : List ℕ} {consts : List Place} {at mid start name len cut : ℕ} → Comes bytes at (U2 name (NamesAttribute consts name ∷ []) ∷ []) (Ok mid) → IsThere bytes mid (u4 len) → start ≡ mid + 4
    → len < 2 ^ 32 → (length (drop start bytes) < len) × (cut ≡ start) → (a : Attribute) × Comes bytes at (attribute_parts consts a) (Err (Truncated cut))
attribute_cut {bytes = bytes} {at = at} {start = start} {name = name} {len = len} {cut = cut} named there start_is fits short =
    let zeros : List ℕ = copies len 0 in
    let e = length-copies {A = ℕ} len 0 in
    let length_stands = u4_comes (rw e there) start_is (rw e fits) tt in
    (record { name = name; bytes = zeros }, then named (then length_stands (record { goes = inl (inl (rw e short.0, ap Truncated short.1)) })))
