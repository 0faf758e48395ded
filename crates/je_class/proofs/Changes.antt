-- A class of which one method's attribute has other bytes.
use Rattle.std.proofs.Common.{◌≡◌, ℕ, zero, suc, ◌^◌, ◌<◌, List, [], ◌∷◌, ◌++◌, length, Option, Some, None, refl, sym, ap, ◌∙◌}
use Rattle.std.specs.Prelude.{slice_get, slice_set, IsSomeAnd}
use Rattle.std.specs.List.{AllByRecursion}
use Rattle.je_consts.specs.declared.place.Place.{Place}
use Rattle.je_class.specs.declared.member.Attribute.{Attribute}
use Rattle.je_class.specs.declared.member.Member.{Member}
use Rattle.je_class.specs.Class.{Class, changed_at, with_bytes, with_attribute, with_method_attribute}
use Rattle.je_base.specs.Parts.{IsSoundPart, each, table_parts}
use Rattle.je_class.specs.FileParts.{class_format, Part, interface_parts, attribute_parts, field_parts, method_parts, IsSound}
use Rattle.je_class.proofs.Alls.{all_split, all_join}

pub changed_at-slice_set : {A : Type 0} (at : ℕ) (f : A → A) (xs : List A) (x : A) → slice_get xs at ≡ Some x → changed_at at f xs ≡ slice_set xs at (f x)
changed_at-slice_set at f [] x e = absurd cc
changed_at-slice_set zero f (y ∷ xs) x e = ap (λ z. f z ∷ xs) cc
changed_at-slice_set (suc at) f (y ∷ xs) x e = ap (λ zs. y ∷ zs) (changed_at-slice_set at f xs x e)

pub length-changed_at : {A : Type 0} (at : ℕ) (f : A → A) (xs : List A) → length (changed_at at f xs) ≡ length xs
length-changed_at at f [] = refl
length-changed_at zero f (x ∷ xs) = refl
length-changed_at (suc at) f (x ∷ xs) = ap suc (length-changed_at at f xs)

module _ {A : Type 0} (P : Part → Type 0) (parts : A → List Part) (f : A → A) (keeps : (x : A) → AllByRecursion P (parts x) → AllByRecursion P (parts (f x))) where
  each-changed_at : (at : ℕ) (xs : List A) → AllByRecursion P (each parts xs) → AllByRecursion P (each parts (changed_at at f xs))
  each-changed_at at [] h = tt
  each-changed_at zero (x ∷ xs) h =
      let s = all_split P (parts x) (each parts xs) h in
      all_join P (parts (f x)) (each parts xs) (keeps x s.0) s.1
  each-changed_at (suc at) (x ∷ xs) h =
      let s = all_split P (parts x) (each parts xs) h in
      all_join P (parts x) (each parts (changed_at at f xs)) s.0 (each-changed_at at xs s.1)

module _ (consts : List Place) where
  abbrev Sound : List Part → Type 0
  Sound parts = AllByRecursion (IsSoundPart class_format) parts

  sound_table : {A : Type 0} (parts : A → List Part) (f : A → A) → ((x : A) → Sound (parts x) → Sound (parts (f x))) → (at : ℕ) (xs : List A)
      → Sound (table_parts parts xs) → Sound (table_parts parts (changed_at at f xs))
  sound_table parts f keeps at xs h =
      let count : length (changed_at at f xs) < 2 ^ 16 = rw (length-changed_at at f xs) h.0.0 in
      ((count, tt), each-changed_at (IsSoundPart class_format) parts f keeps at xs h.1)

  sound_method : (at : ℕ) (bytes : List ℕ) → length bytes < 2 ^ 32 → (m : Member) → Sound (method_parts consts m) → Sound (method_parts consts (with_attribute at bytes m))
  sound_method at bytes lt m h =
      (h.0, (h.1.0, (h.1.1.0, sound_table (attribute_parts consts) (with_bytes bytes) (λ a s. (s.0, ((lt, tt), (tt, tt)))) at m.attributes h.1.1.1)))

pub IsSound-with_method_attribute : (method attribute : ℕ) (bytes : List ℕ) (c : Class) → length bytes < 2 ^ 32 → IsSound c → IsSound (with_method_attribute method attribute bytes c)
IsSound-with_method_attribute method attribute bytes c lt sound =
    let h = sound.parts in
    let P = IsSoundPart class_format in
    let interfaces = table_parts (interface_parts c.consts) c.interfaces in
    let fields = table_parts (field_parts c.consts) c.fields in
    let methods = table_parts (method_parts c.consts) c.methods in
    let attributes = table_parts (attribute_parts c.consts) c.attributes in
    let changed = table_parts (method_parts c.consts) (changed_at method (with_attribute attribute bytes) c.methods) in
    let a = all_split P interfaces (fields ++ (methods ++ attributes)) h.1.1.1.1.1.1.1 in
    let b = all_split P fields (methods ++ attributes) a.1 in
    let d = all_split P methods attributes b.1 in
    let new = sound_table c.consts (method_parts c.consts) (with_attribute attribute bytes) (sound_method c.consts attribute bytes lt) method c.methods d.0 in
    let rest = all_join P interfaces (fields ++ (changed ++ attributes)) a.0 (all_join P fields (changed ++ attributes) b.0 (all_join P changed attributes new d.1)) in
    record { parts = (h.0, (h.1.0, (h.1.1.0, (h.1.1.1.0, (h.1.1.1.1.0, (h.1.1.1.1.1.0, (h.1.1.1.1.1.1.0, rest))))))) }

-- a value of which P holds
pub IsSomeAnd-value : {A : Type 0} (o : Option A) (P : A → Type 0) → IsSomeAnd o P → (x : A) × (o ≡ Some x) × P x
IsSomeAnd-value (Some x) P h = (x, refl, h)
IsSomeAnd-value None P h = absurd h

-- a write to one attribute of one method
pub slice_set-with_attribute : (ms : List Member) (method attribute : ℕ) (bytes : List ℕ) (m : Member) (a : Attribute) (attributes : List Attribute) → slice_get ms method ≡ Some m → slice_get m.attributes attribute ≡ Some a
    → attributes ≡ slice_set m.attributes attribute (with_bytes bytes a) → slice_set ms method (record m { attributes = attributes }) ≡ changed_at method (with_attribute attribute bytes) ms
slice_set-with_attribute ms method attribute bytes m a attributes at_method at_attribute written =
    let inner = changed_at-slice_set attribute (with_bytes bytes) m.attributes a at_attribute ∙ sym written in
    sym (changed_at-slice_set method (with_attribute attribute bytes) ms m at_method ∙ ap (λ (written_attributes : List Attribute). slice_set ms method (record m { attributes = written_attributes })) inner)
