-- An index of methods is that of the class whose method has other code.
use Rattle.std.proofs.Common.{◌≡◌, ℕ, zero, suc, List, [], ◌∷◌, Option, Some, None, IfSome, IfNone, sym, ◌∙◌}
use Rattle.std.specs.Prelude.{All, IsSomeAnd, slice_get}
use Rattle.std.specs.List.{AllByRecursion, AllZip}
use Rattle.std.proofs.lemmas.List.Elements.{All-from_recursion, recursion_from_All}
use Rattle.je_consts.specs.declared.place.Place.{Place}
use Rattle.je_consts.specs.Pool.{text_at}
use Rattle.je_class.specs.declared.member.Member.{Member}
use Rattle.je_class.specs.Class.{Class, IsNamed, IsMethodAt, changed_at, with_attribute, with_code}
use Rattle.je_class.specs.Grown.{IsSameMember}
use Rattle.je_class.specs.Indexed.{Finds}

module _ {A B : Type 0} (R : A → B → Type 0) (P : A → Type 0) (Q : B → Type 0) (gives : (x : A) (y : B) → R x y → P x → Q y) where
  some_zip : (xs : List A) (ys : List B) (i : ℕ) → AllZip R xs ys → IsSomeAnd (slice_get xs i) P → IsSomeAnd (slice_get ys i) Q
  some_zip [] [] i z h = h
  some_zip [] (y ∷ ys) i z h = absurd z
  some_zip (x ∷ xs) [] i z h = absurd z
  some_zip (x ∷ xs) (y ∷ ys) zero z h = gives x y z.0 h
  some_zip (x ∷ xs) (y ∷ ys) (suc i) z h = some_zip xs ys i z.1 h

  if_zip : (xs : List A) (ys : List B) (i : ℕ) → AllZip R xs ys → IfSome (slice_get xs i) P → IfSome (slice_get ys i) Q
  if_zip [] [] i z h = h
  if_zip [] (y ∷ ys) i z h = absurd z
  if_zip (x ∷ xs) [] i z h = absurd z
  if_zip (x ∷ xs) (y ∷ ys) zero z h = gives x y z.0 h
  if_zip (x ∷ xs) (y ∷ ys) (suc i) z h = if_zip xs ys i z.1 h

  each_zip : (xs : List A) (ys : List B) → AllZip R xs ys → AllByRecursion P xs → AllByRecursion Q ys
  each_zip [] [] z h = tt
  each_zip [] (y ∷ ys) z h = absurd z
  each_zip (x ∷ xs) [] z h = absurd z
  each_zip (x ∷ xs) (y ∷ ys) z h = (gives x y z.0 h.0, each_zip xs ys z.1 h.1)

-- one is named in the one pool as the other is in the other
record IsAs (old new : List Place) (x y : Member) : Type 0 where
  name : text_at new y.name ≡ text_at old x.name
  descriptor : text_at new y.descriptor ≡ text_at old x.descriptor

module _ (old new : List Place) (attribute : ℕ) (bytes : List ℕ) where
  as_itself : (ms : List Member) → AllByRecursion (IsSameMember old new) ms → AllZip (IsAs old new) ms ms
  as_itself [] h = tt
  as_itself (m ∷ ms) h = (record { name = h.0.name; descriptor = h.0.descriptor }, as_itself ms h.1)

  as_changed : (at : ℕ) (ms : List Member) → AllByRecursion (IsSameMember old new) ms → AllZip (IsAs old new) ms (changed_at at (with_attribute attribute bytes) ms)
  as_changed at [] h = tt
  as_changed zero (m ∷ ms) h = (record { name = h.0.name; descriptor = h.0.descriptor }, as_itself ms h.1)
  as_changed (suc at) (m ∷ ms) h = (record { name = h.0.name; descriptor = h.0.descriptor }, as_changed at ms h.1)

if_some_by : {A : Type 0} (P Q : A → Type 0) (o : Option A) → ((x : A) → P x → Q x) → IfSome o P → IfSome o Q
if_some_by P Q (Some x) gives h = gives x h
if_some_by P Q None gives h = h

if_none_by : {A : Type 0} (P Q : Type 0) (o : Option A) → (P → Q) → IfNone o P → IfNone o Q
if_none_by P Q (Some x) gives h = h
if_none_by P Q None gives h = gives h

module _ (c : Class) (consts : List Place) (methods : List Member) (zipped : AllZip (IsAs c.consts consts) c.methods methods) where
  abbrev after : Class
  after = record c { consts = consts; methods = methods }

  module _ (n d : List ℕ) where
    named : (x y : Member) → IsAs c.consts consts x y → IsNamed c.consts n d x → IsNamed consts n d y
    named x y r h = record { name_is = r.name ∙ h.name_is; descriptor_is = r.descriptor ∙ h.descriptor_is }

    other : (x y : Member) → IsAs c.consts consts x y → (IsNamed c.consts n d x → ⊥) → IsNamed consts n d y → ⊥
    other x y r not h =
        not (record { name_is = sym r.name ∙ h.name_is; descriptor_is = sym r.descriptor ∙ h.descriptor_is })

    method_stays : (at : ℕ) → IsMethodAt c n d at → IsMethodAt after n d at
    method_stays at h = record {
      here = some_zip (IsAs c.consts consts) (IsNamed c.consts n d) (IsNamed consts n d) named c.methods methods at zipped h.here;
      first = λ i lt. if_zip (IsAs c.consts consts) (λ m. IsNamed c.consts n d m → ⊥) (λ m. IsNamed consts n d m → ⊥) other c.methods methods i zipped (h.first i lt);
    }

    none_stays : All (λ m. IsNamed c.consts n d m → ⊥) c.methods → All (λ m. IsNamed consts n d m → ⊥) methods
    none_stays h =
        All-from_recursion (λ m. IsNamed consts n d m → ⊥) methods (each_zip (IsAs c.consts consts) (λ m. IsNamed c.consts n d m → ⊥) (λ m. IsNamed consts n d m → ⊥) other c.methods methods zipped (recursion_from_All (λ m. IsNamed c.consts n d m → ⊥) c.methods h))

  finds_after : (found : List ℕ → List ℕ → Option ℕ) → Finds c found → Finds after found
  finds_after found finds = record {
    first = λ n d. if_some_by (IsMethodAt c n d) (IsMethodAt after n d) (found n d) (method_stays n d) (finds.first n d);
    none = λ n d. if_none_by _ _ (found n d) (none_stays n d) (finds.none n d);
  }

pub finds_stays : (c : Class) (consts : List Place) (method attribute : ℕ) (bytes : List ℕ) (found : List ℕ → List ℕ → Option ℕ) → All (IsSameMember c.consts consts) c.methods → Finds c found
    → Finds (with_code method attribute bytes consts c) found
finds_stays c consts method attribute bytes found same finds =
    let methods = changed_at method (with_attribute attribute bytes) c.methods in
    finds_after c consts methods (as_changed c.consts consts attribute bytes method c.methods (recursion_from_All (IsSameMember c.consts consts) c.methods same)) found finds
