-- A class file whose constant pool has grown.
use Rattle.std.proofs.Common.{◌≡◌, ℕ, ◌^◌, ◌<◌, ◌⊎◌, List, [], ◌∷◌, ◌++◌, length, Option, Some, None, refl, inl, inr}
use Rattle.std.proofs.lemmas.List.Elements.{All-from_recursion, recursion_from_All}
use Rattle.std.specs.Prelude.{All, IsSome, IsSomeAnd, option_and_then}
use Rattle.std.specs.List.{AllByRecursion}
use Rattle.je_consts.specs.declared.constant.Const.{Const}
use Rattle.je_consts.specs.declared.constant.Const.TheVariants as entry
use Rattle.je_consts.specs.declared.place.Place.{Place}
use Rattle.je_consts.specs.Adding.{Keeps}
use Rattle.je_consts.specs.Pool.{const_at, text_of, text_at, class_of, class_at, IsPool}
use Rattle.je_desc.specs.Names.{IsClassName}
use Rattle.je_desc.specs.Descriptor.{FieldDescriptor}
use Rattle.je_class.specs.declared.member.Attribute.{Attribute}
use Rattle.je_class.specs.declared.member.Member.{Member}
use Rattle.je_class.specs.Class.{Class, IsClassIndex, IsTextIndex, IsDescriptorOf, with_code}
use Rattle.je_base.specs.Parts.{U2, IsSoundPart, each, table_parts}
use Rattle.je_class.specs.FileParts.{NamesClass, NamesSuper, class_format, Part, interface_parts, attribute_parts, field_parts, method_parts, IsSound}
use Rattle.je_class.specs.Sound.{IsSoundAttribute, IsSoundInterface, IsSoundMember, IsSoundField, IsSoundMethod}
use Rattle.je_class.specs.Grown.{IsSameText, IsSameClass, IsSameAttribute, IsSameMember, NamesStay}
use Rattle.je_class.proofs.Alls.{all_split, all_join}
use Rattle.je_class.proofs.Changes.{IsSound-with_method_attribute}
use Rattle.je_class.proofs.SoundParts.{HasSoundParts-sound}

-- what the first is, the second is too
abbrev Stays : {A : Type 0} → Option A → Option A → Type 0
Stays {A = A} o p = (x : A) → o ≡ Some x → p ≡ Some x

stays_then : {A B : Type 0} (f g : A → Option B) (o p : Option A) → Stays o p → ((x : A) → Stays (f x) (g x)) → Stays (option_and_then f o) (option_and_then g p)
stays_then f g None p first next y e = absurd cc
stays_then f g (Some x) p first next y e = rw (first x refl) (next x y e)

stays_some : {A : Type 0} (o p : Option A) → Stays o p → IsSome o → IsSome p
stays_some None p stays h = absurd cc
stays_some (Some x) p stays h = rw (stays x refl) h

stays_and : {A : Type 0} (P : A → Type 0) (o p : Option A) → Stays o p → IsSomeAnd o P → IsSomeAnd p P
stays_and P None p stays h = absurd h
stays_and P (Some x) p stays h = rw (stays x refl) h

same_some : {A : Type 0} (o p : Option A) → Stays o p → IsSome o → p ≡ o
same_some None p stays h = absurd cc
same_some (Some x) p stays h = stays x refl

same_and : {A : Type 0} (P : A → Type 0) (o p : Option A) → Stays o p → IsSomeAnd o P → p ≡ o
same_and P None p stays h = absurd h
same_and P (Some x) p stays h = stays x refl

all_mapped : {A : Type 0} (P Q : A → Type 0) → ((x : A) → P x → Q x) → (xs : List A) → AllByRecursion P xs → AllByRecursion Q xs
all_mapped P Q gives [] h = tt
all_mapped P Q gives (x ∷ xs) h = (gives x h.0, all_mapped P Q gives xs h.1)

all_same : {A : Type 0} (P Q : A → Type 0) → ((x : A) → P x → Q x) → (xs : List A) → All P xs → All Q xs
all_same P Q gives xs h = All-from_recursion Q xs (all_mapped P Q gives xs (recursion_from_All P xs h))

abbrev Sound : List Part → Type 0
Sound parts = AllByRecursion (IsSoundPart class_format) parts

-- the tables of a class file, whose indexes are of this constant pool
abbrev tables_parts : List Place → Class → List Part
tables_parts consts c = table_parts (interface_parts consts) c.interfaces ++ (table_parts (field_parts consts) c.fields ++ (table_parts (method_parts consts) c.methods ++ table_parts (attribute_parts consts) c.attributes))

module _ (old new : List Place) (keeps : Keeps old new) where
  text_stays : (i : ℕ) → Stays (text_at old i) (text_at new i)
  text_stays i = stays_then text_of text_of (const_at old i) (const_at new i) (keeps.content i) (λ c t e. e)

  class_of_stays : (c : Const) → Stays (class_of old c) (class_of new c)
  class_of_stays (entry.Class n) t e = text_stays n t e
  class_of_stays _ t e = e

  class_stays : (i : ℕ) → Stays (class_at old i) (class_at new i)
  class_stays i = stays_then (class_of old) (class_of new) (const_at old i) (const_at new i) (keeps.content i) class_of_stays

  -- ---- tests

  class_index_stays : (i : ℕ) → IsClassIndex old i → IsClassIndex new i
  class_index_stays i h = stays_and IsClassName (class_at old i) (class_at new i) (class_stays i) h

  text_index_stays : (i : ℕ) → IsTextIndex old i → IsTextIndex new i
  text_index_stays i h = stays_some (text_at old i) (text_at new i) (text_stays i) h

  super_index_stays : (i : ℕ) → (i ≡ 0) ⊎ IsClassIndex old i → (i ≡ 0) ⊎ IsClassIndex new i
  super_index_stays i (inl h) = inl h
  super_index_stays i (inr h) = inr (class_index_stays i h)

  -- ---- parts

  still_each : {A : Type 0} (before after : A → List Part) → ((x : A) → Sound (before x) → Sound (after x)) → (xs : List A) → Sound (each before xs) → Sound (each after xs)
  still_each before after gives [] h = tt
  still_each before after gives (x ∷ xs) h =
      let s = all_split (IsSoundPart class_format) (before x) (each before xs) h in
      all_join (IsSoundPart class_format) (after x) (each after xs) (gives x s.0) (still_each before after gives xs s.1)

  still_interface : (i : ℕ) → Sound (interface_parts old i) → Sound (interface_parts new i)
  still_interface i h = ((h.0.0, (class_index_stays i h.0.1.0, tt)), tt)

  still_attribute : (a : Attribute) → Sound (attribute_parts old a) → Sound (attribute_parts new a)
  still_attribute a h = ((h.0.0, (text_index_stays a.name h.0.1.0, tt)), h.1)

  still_field : (m : Member) → Sound (field_parts old m) → Sound (field_parts new m)
  still_field m h =
      let d = h.1.1.0 in
      let describes = stays_and FieldDescriptor (text_at old m.descriptor) (text_at new m.descriptor) (text_stays m.descriptor) d.1.1.0 in
      let attributes = still_each (attribute_parts old) (attribute_parts new) still_attribute m.attributes h.1.1.1.1 in
      (h.0, ((h.1.0.0, (text_index_stays m.name h.1.0.1.0, tt)), ((d.0, (text_index_stays m.descriptor d.1.0, (describes, tt))), (h.1.1.1.0, attributes))))

  still_method : (m : Member) → Sound (method_parts old m) → Sound (method_parts new m)
  still_method m h =
      let d = h.1.1.0 in
      let describes = stays_and (IsDescriptorOf m.access) (text_at old m.descriptor) (text_at new m.descriptor) (text_stays m.descriptor) d.1.1.0 in
      let attributes = still_each (attribute_parts old) (attribute_parts new) still_attribute m.attributes h.1.1.1.1 in
      (h.0, ((h.1.0.0, (text_index_stays m.name h.1.0.1.0, tt)), ((d.0, (text_index_stays m.descriptor d.1.0, (describes, tt))), (h.1.1.1.0, attributes))))

  still_tables : (c : Class) → Sound (tables_parts old c) → Sound (tables_parts new c)
  still_tables c h =
      let P = IsSoundPart class_format in
      let a = all_split P (table_parts (interface_parts old) c.interfaces) (table_parts (field_parts old) c.fields ++ (table_parts (method_parts old) c.methods ++ table_parts (attribute_parts old) c.attributes)) h in
      let b = all_split P (table_parts (field_parts old) c.fields) (table_parts (method_parts old) c.methods ++ table_parts (attribute_parts old) c.attributes) a.1 in
      let d = all_split P (table_parts (method_parts old) c.methods) (table_parts (attribute_parts old) c.attributes) b.1 in
      let interfaces : Sound (table_parts (interface_parts new) c.interfaces) = (a.0.0, still_each (interface_parts old) (interface_parts new) still_interface c.interfaces a.0.1) in
      let fields : Sound (table_parts (field_parts new) c.fields) = (b.0.0, still_each (field_parts old) (field_parts new) still_field c.fields b.0.1) in
      let methods : Sound (table_parts (method_parts new) c.methods) = (d.0.0, still_each (method_parts old) (method_parts new) still_method c.methods d.0.1) in
      let attributes : Sound (table_parts (attribute_parts new) c.attributes) = (d.1.0, still_each (attribute_parts old) (attribute_parts new) still_attribute c.attributes d.1.1) in
      all_join P (table_parts (interface_parts new) c.interfaces) (table_parts (field_parts new) c.fields ++ (table_parts (method_parts new) c.methods ++ table_parts (attribute_parts new) c.attributes)) interfaces
      (all_join P (table_parts (field_parts new) c.fields) (table_parts (method_parts new) c.methods ++ table_parts (attribute_parts new) c.attributes) fields
      (all_join P (table_parts (method_parts new) c.methods) (table_parts (attribute_parts new) c.attributes) methods attributes))

  -- ---- names

  same_text : (i : ℕ) → IsTextIndex old i → IsSameText old new i
  same_text i h = same_some (text_at old i) (text_at new i) (text_stays i) h

  same_class : (i : ℕ) → IsClassIndex old i → IsSameClass old new i
  same_class i h = same_and IsClassName (class_at old i) (class_at new i) (class_stays i) h

  same_super : (i : ℕ) → (i ≡ 0) ⊎ IsClassIndex old i → IsSameClass old new i
  same_super i (inl is) = rw is refl
  same_super i (inr h) = same_class i h

  same_member : (P : List ℕ → Type 0) (m : Member) → IsSoundMember P old m → IsSameMember old new m
  same_member P m sound = record {
    name = same_text m.name sound.name;
    descriptor = same_and P (text_at old m.descriptor) (text_at new m.descriptor) (text_stays m.descriptor) sound.descriptor;
    attributes = all_same (IsSoundAttribute old) (IsSameAttribute old new) (λ a s. same_text a.name s.name) m.attributes sound.attributes;
  }

abbrev with_pool : List Place → Class → Class
with_pool new c = record c { consts = new }

IsSound-with_pool : (c : Class) (new : List Place) → IsPool new → Keeps c.consts new → IsSound c → IsSound (with_pool new c)
IsSound-with_pool c new pool keeps sound =
    let h = sound.parts in
    let own = h.1.1.1.1 in
    let this : Sound (U2 c.this_class (NamesClass new c.this_class ∷ []) ∷ []) = ((own.1.0.0, (class_index_stays c.consts new keeps c.this_class own.1.0.1.0, tt)), tt) in
    let super : Sound (U2 c.super_class (NamesSuper new c.super_class ∷ []) ∷ []) = ((own.1.1.0.0, (super_index_stays c.consts new keeps c.super_class own.1.1.0.1.0, tt)), tt) in
    record { parts = (h.0, (h.1.0, (h.1.1.0, (pool, (own.0, (this.0, (super.0, still_tables c.consts new keeps c own.1.1.1))))))) }

pub IsSound-with_code : (method attribute : ℕ) (bytes : List ℕ) (new : List Place) (c : Class) → length bytes < 2 ^ 32 → IsPool new → Keeps c.consts new → IsSound c → IsSound (with_code method attribute bytes new c)
IsSound-with_code method attribute bytes new c lt pool keeps sound =
    IsSound-with_method_attribute method attribute bytes (with_pool new c) lt (IsSound-with_pool c new pool keeps sound)

pub names_stay : (c : Class) (new : List Place) → IsSound c → Keeps c.consts new → NamesStay c new
names_stay c new sound keeps =
    let old = c.consts in
    let parts = HasSoundParts-sound c sound in
    record {
      this_class = same_class old new keeps c.this_class parts.this_class;
      super_class = same_super old new keeps c.super_class parts.super_class;
      interfaces = all_same (IsSoundInterface old) (IsSameClass old new) (λ i s. same_class old new keeps i s.class) c.interfaces parts.interfaces;
      fields = all_same (IsSoundField old) (IsSameMember old new) (λ m s. same_member old new keeps FieldDescriptor m s) c.fields parts.fields;
      methods = all_same (IsSoundMethod old) (IsSameMember old new) (λ m s. same_member old new keeps (IsDescriptorOf m.access) m s) c.methods parts.methods;
      attributes = all_same (IsSoundAttribute old) (IsSameAttribute old new) (λ a s. same_text old new keeps a.name s.name) c.attributes parts.attributes;
    }
