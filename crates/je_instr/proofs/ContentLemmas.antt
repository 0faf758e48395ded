-- What the entries of a constant pool say.
use Rattle.std.proofs.Common.{◌≡◌, ℕ, zero, suc, List, [], ◌∷◌, Option, Some, None, refl, subst}
use Rattle.std.proofs.Common.{arith, IsSomeAnd}
use Rattle.std.specs.Prelude.{IsSome, slice_get, option_and_then}
use Rattle.std.specs.List.{AllByRecursion}
use Rattle.std.specs.Option.{option_map}
use Rattle.je_consts.specs.declared.constant.Const.{Const}
use Rattle.je_consts.specs.declared.constant.Const.TheVariants as entry
use Rattle.je_consts.specs.declared.constant.MemberTag.{MemberTag}
use Rattle.je_consts.specs.declared.place.Place.{Place}
use Rattle.je_consts.specs.declared.place.Place.TheVariants.{Entry, Second}
use Rattle.je_consts.specs.Adding.{NamesMember}
use Rattle.je_consts.specs.Pool.{tag, tag_at, entry_of, const_at, text_of, text_at, class_of}
use Rattle.je_consts.specs.Pool.{class_at, NamesAndTypes, IsMemberTag, Names, OfEntry, IsPool}
use Rattle.je_consts.specs.Pool.{name_and_type_of, name_and_type_at}
use Rattle.je_consts.specs.declared.constant.MemberTag.TheVariants.{Field, Method, InterfaceMethod}
use Rattle.je_machine.specs.Content.{Content, Class, Str, Member, NameAndType, MethodHandle}
use Rattle.je_machine.specs.Content.{MethodType, InvokeDynamic}
use Rattle.je_instr.specs.Content.{of_text, of_name_and_type, of_member, handle_of, content_of}
use Rattle.je_instr.specs.Content.{content_at}
use Rattle.je_instr.proofs.OperationLemmas.{some_is}

named_pair : (consts : List Place) (i : ℕ) (name descriptor : List ℕ) → NamesAndTypes consts i name descriptor → name_and_type_at consts i ≡ Some (name, descriptor)
named_pair consts i name descriptor (n, d, here, text, type) = rw (here, text, type) refl

made_member : (made : List ℕ → List ℕ → List ℕ → Content) (consts : List Place) (class member : ℕ) (owner name descriptor : List ℕ) → class_at consts class ≡ Some owner → NamesAndTypes consts member name descriptor → of_member made consts class member ≡ Some (made owner name descriptor)
made_member made consts class member owner name descriptor here names = rw (here, named_pair consts member name descriptor names) refl

pub class_means : (consts : List Place) (i : ℕ) (name : List ℕ) → class_at consts i ≡ Some name → content_at consts i ≡ Some (Class name)
class_means consts i name e = by_entry (const_at consts i) e where
  by_const : (c : Const) → class_of consts c ≡ Some name → content_of consts c ≡ Some (Class name)
  by_const (entry.Class n) e = rw e refl
  by_const (entry.Utf8 t) e = absurd cc
  by_const (entry.Integer n) e = absurd cc
  by_const (entry.Float n) e = absurd cc
  by_const (entry.Long n) e = absurd cc
  by_const (entry.Double n) e = absurd cc
  by_const (entry.Str n) e = absurd cc
  by_const (entry.Field c m) e = absurd cc
  by_const (entry.Method c m) e = absurd cc
  by_const (entry.InterfaceMethod c m) e = absurd cc
  by_const (entry.NameAndType n d) e = absurd cc
  by_const (entry.MethodHandle k m) e = absurd cc
  by_const (entry.MethodType d) e = absurd cc
  by_const (entry.InvokeDynamic b m) e = absurd cc

  by_entry : (o : Option Const) → option_and_then (class_of consts) o ≡ Some name → option_and_then (content_of consts) o ≡ Some (Class name)
  by_entry None e = absurd cc
  by_entry (Some c) e = by_const c e

pub string_means : (consts : List Place) (i t : ℕ) (text : List ℕ) → const_at consts i ≡ Some (entry.Str t) → text_at consts t ≡ Some text → content_at consts i ≡ Some (Str text)
string_means consts i t text here is = rw (here, is) refl

pub pair_means : (consts : List Place) (i : ℕ) (name descriptor : List ℕ) → NamesAndTypes consts i name descriptor → content_at consts i ≡ Some (NameAndType name descriptor)
pair_means consts i name descriptor (n, d, here, text, type) = rw (here, text, type) refl

pub type_means : (consts : List Place) (i d : ℕ) (descriptor : List ℕ) → const_at consts i ≡ Some (entry.MethodType d) → text_at consts d ≡ Some descriptor → content_at consts i ≡ Some (MethodType descriptor)
type_means consts i d descriptor here is = rw (here, is) refl

pub member_means : (kind : MemberTag) (consts : List Place) (i : ℕ) (owner name descriptor : List ℕ) → NamesMember kind consts i owner name descriptor → content_at consts i ≡ Some (Member kind owner name descriptor)
member_means Field consts i owner name descriptor (class, member, here, of, names) = rw here (made_member (Member Field) consts class member owner name descriptor of names)
member_means Method consts i owner name descriptor (class, member, here, of, names) = rw here (made_member (Member Method) consts class member owner name descriptor of names)
member_means InterfaceMethod consts i owner name descriptor (class, member, here, of, names) = rw here (made_member (Member InterfaceMethod) consts class member owner name descriptor of names)

handle_named : (kind : MemberTag) (consts : List Place) (k m : ℕ) (owner name descriptor : List ℕ) → NamesMember kind consts m owner name descriptor → option_and_then (handle_of k consts) (const_at consts m) ≡ Some (MethodHandle k kind owner name descriptor)
handle_named Field consts k m owner name descriptor (class, member, here, of, names) = rw here (made_member (MethodHandle k Field) consts class member owner name descriptor of names)
handle_named Method consts k m owner name descriptor (class, member, here, of, names) = rw here (made_member (MethodHandle k Method) consts class member owner name descriptor of names)
handle_named InterfaceMethod consts k m owner name descriptor (class, member, here, of, names) = rw here (made_member (MethodHandle k InterfaceMethod) consts class member owner name descriptor of names)

pub handle_means : (kind : MemberTag) (consts : List Place) (i k m : ℕ) (owner name descriptor : List ℕ) → const_at consts i ≡ Some (entry.MethodHandle k m) → NamesMember kind consts m owner name descriptor → content_at consts i ≡ Some (MethodHandle k kind owner name descriptor)
handle_means kind consts i k m owner name descriptor here names = rw here (handle_named kind consts k m owner name descriptor names)

pub dynamic_means : (consts : List Place) (i b m : ℕ) (name descriptor : List ℕ) → const_at consts i ≡ Some (entry.InvokeDynamic b m) → NamesAndTypes consts m name descriptor → content_at consts i ≡ Some (InvokeDynamic b name descriptor)
dynamic_means consts i b m name descriptor here names = rw (here, named_pair consts m name descriptor names) refl

-- ---- each entry

some_from : {A B : Type 0} (f : A → Option B) (o : Option A) → IsSome o → ((x : A) → o ≡ Some x → IsSome (f x)) → IsSome (option_and_then f o)
some_from f (Some x) there each = each x refl
some_from f None there each = absurd cc

-- what holds of each entry holds of that at an index
at_index : (P : Const → Type 0) (places : List Place) (i : ℕ) (c : Const) → AllByRecursion (OfEntry P) places → option_and_then entry_of (slice_get places i) ≡ Some c → P c
at_index P [] i c all e = absurd cc
at_index P (Entry d ∷ places) zero c all e = subst P (some_is d c e) all.0
at_index P (Second ∷ places) zero c all e = absurd cc
at_index P (Entry d ∷ places) (suc i) c all e = at_index P places i c all.1 e
at_index P (Second ∷ places) (suc i) c all e = at_index P places i c all.1 e

module _ (places : List Place) (pool : IsPool places) where
  names_at : (i : ℕ) (c : Const) → const_at places i ≡ Some c → Names places c
  names_at zero c e = absurd cc
  names_at (suc i) c e = at_index (Names places) places i c pool.names e

  -- what an entry of this tag answers is there
  tagged : {A : Type 0} (t : ℕ) (f : Const → Option A) → ((c : Const) → Names places c → tag c ≡ t → IsSome (f c)) → (i : ℕ) → tag_at places i ≡ Some t → IsSome (option_and_then f (const_at places i))
  tagged {A = A} t f each i e = by_entry (const_at places i) (names_at i) e where
    by_entry : (o : Option Const) → ((c : Const) → o ≡ Some c → Names places c) → option_map tag o ≡ Some t → IsSome (option_and_then f o)
    by_entry (Some c) names e = each c (names c refl) (some_is (tag c) t e)
    by_entry None names e = absurd cc

  text_of_tag : (c : Const) → Names places c → tag c ≡ 1 → IsSome (text_of c)
  text_of_tag = grind arith

  text_there : (i : ℕ) → tag_at places i ≡ Some 1 → IsSome (text_at places i)
  text_there = tagged 1 text_of text_of_tag

  class_of_tag : (c : Const) → Names places c → tag c ≡ 7 → IsSome (class_of places c)
  class_of_tag = grind (arith, text_there)

  class_there : (i : ℕ) → tag_at places i ≡ Some 7 → IsSome (class_at places i)
  class_there = tagged 7 (class_of places) class_of_tag

  both_there : (n d : ℕ) → tag_at places n ≡ Some 1 → tag_at places d ≡ Some 1 → IsSome (name_and_type_of places (entry.NameAndType n d))
  both_there n d name type = some_from (λ x. option_and_then (λ y. Some (x, y)) (text_at places d)) (text_at places n) (text_there n name) (λ x e. some_from (λ y. Some (x, y)) (text_at places d) (text_there d type) (λ y f. refl))

  pair_of_tag : (c : Const) → Names places c → tag c ≡ 12 → IsSome (name_and_type_of places c)
  pair_of_tag (entry.NameAndType n d) names e = both_there n d names.0 names.1
  pair_of_tag _ names e = absurd (omega (arith, e))

  pair_there : (i : ℕ) → tag_at places i ≡ Some 12 → IsSome (name_and_type_at places i)
  pair_there = tagged 12 (name_and_type_of places) pair_of_tag

  made_there : (made : List ℕ → List ℕ → Content) (i : ℕ) → tag_at places i ≡ Some 12 → IsSome (of_name_and_type made places i)
  made_there made i e = some_from (λ m. Some (made m.0 m.1)) (name_and_type_at places i) (pair_there i e) (λ m f. refl)

  member_there : (made : List ℕ → List ℕ → List ℕ → Content) (class member : ℕ) → (tag_at places class ≡ Some 7) × (tag_at places member ≡ Some 12) → IsSome (of_member made places class member)
  member_there made class member e = some_from (λ c. of_name_and_type (made c) places member) (class_at places class) (class_there class e.0) (λ c f. made_there (made c) member e.1)

  text_made : (made : List ℕ → Content) (i : ℕ) → tag_at places i ≡ Some 1 → IsSome (of_text made places i)
  text_made made i e = some_from (λ t. Some (made t)) (text_at places i) (text_there i e) (λ t f. refl)

  handle_of_tag : (k : ℕ) (c : Const) → Names places c → IsMemberTag (tag c) → IsSome (handle_of k places c)
  handle_of_tag k (entry.Field class member) names e = member_there (MethodHandle k Field) class member names
  handle_of_tag k (entry.Method class member) names e = member_there (MethodHandle k Method) class member names
  handle_of_tag k (entry.InterfaceMethod class member) names e = member_there (MethodHandle k InterfaceMethod) class member names
  handle_of_tag k _ names e = absurd (omega (arith, e.0, e.1))

  handle_there : (k : ℕ) (o : Option Const) → ((c : Const) → o ≡ Some c → Names places c) → IsSomeAnd (option_map tag o) IsMemberTag → IsSome (option_and_then (handle_of k places) o)
  handle_there k (Some c) names e = handle_of_tag k c (names c refl) e
  handle_there k None names e = absurd e

  content_there : (c : Const) → Names places c → IsSome (content_of places c)
  content_there (entry.Utf8 text) names = refl
  content_there (entry.Integer n) names = refl
  content_there (entry.Float bits) names = refl
  content_there (entry.Long n) names = refl
  content_there (entry.Double bits) names = refl
  content_there (entry.Class name) names = text_made Class name names
  content_there (entry.Str text) names = text_made Str text names
  content_there (entry.Field class member) names = member_there (Member Field) class member names
  content_there (entry.Method class member) names = member_there (Member Method) class member names
  content_there (entry.InterfaceMethod class member) names = member_there (Member InterfaceMethod) class member names
  content_there (entry.NameAndType name descriptor) names = some_from (λ n. of_text (NameAndType n) places descriptor) (text_at places name) (text_there name names.0) (λ n e. text_made (NameAndType n) descriptor names.1)
  content_there (entry.MethodHandle kind member) names = handle_there kind (const_at places member) (names_at member) names
  content_there (entry.MethodType descriptor) names = text_made MethodType descriptor names
  content_there (entry.InvokeDynamic bootstrap member) names = made_there (InvokeDynamic bootstrap) member names

pub each_means : (consts : List Place) (i : ℕ) → IsPool consts → IsSome (const_at consts i) → IsSome (content_at consts i)
each_means consts i pool there = some_from (content_of consts) (const_at consts i) there (λ c e. content_there consts pool c (names_at consts pool i c e))
