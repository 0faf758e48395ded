-- In a pool a look-up answers exactly where an entry of its tag stands.
use Rattle.std.proofs.Common.{◌≡◌, ℕ, zero, suc, ◌↔◌, List, [], ◌∷◌, Option, Some, None, IsSomeAnd, refl, arith}
use Rattle.std.specs.Prelude.{IsSome, slice_get, option_and_then}
use Rattle.std.specs.Option.{option_map}
use Rattle.std.specs.List.{AllByRecursion}
use Rattle.je_consts.specs.declared.constant.Const.{Const}
use Rattle.je_consts.specs.declared.constant.Const.TheVariants.{Utf8, Class, Field, Method, InterfaceMethod, NameAndType}
use Rattle.je_consts.specs.declared.constant.MemberTag.{MemberTag}
use Rattle.je_consts.specs.declared.place.Place.{Place}
use Rattle.je_consts.specs.declared.place.Place.TheVariants.{Entry, Second}
use Rattle.je_consts.specs.Pool.{tag, entry_of, const_at, tag_at, text_of, text_at, class_of, class_at, name_and_type_of, name_and_type_at, named_member, member_of_entry, member_at, IsMemberTag, IsUtf8At, IsClassAt, IsNameAndTypeAt, IsMemberAt, Names, OfEntry, IsPool}

-- ---- what stands where something is answered

text_stands : (o : Option Const) → IsSome (option_and_then text_of o) → option_map tag o ≡ Some 1
text_stands (Some (Utf8 text)) h = refl
text_stands _ h = absurd cc

class_stands : (places : List Place) (o : Option Const) → IsSome (option_and_then (class_of places) o) → option_map tag o ≡ Some 7
class_stands places (Some (Class name)) h = refl
class_stands places _ h = absurd cc

pair_stands : (places : List Place) (o : Option Const) → IsSome (option_and_then (name_and_type_of places) o) → option_map tag o ≡ Some 12
pair_stands places (Some (NameAndType name descriptor)) h = refl
pair_stands places _ h = absurd cc

member_stands : (places : List Place) (o : Option Const) → IsSome (option_and_then (member_of_entry places) o) → IsSomeAnd (option_map tag o) IsMemberTag
member_stands places (Some (Field class member)) h = (omega arith, omega arith)
member_stands places (Some (Method class member)) h = (omega arith, omega arith)
member_stands places (Some (InterfaceMethod class member)) h = (omega arith, omega arith)
member_stands places _ h = absurd cc

-- ---- what is answered where it stands

then_some : {A B : Type 0} (f : A → Option B) (o : Option A) → IsSome o → ((x : A) → o ≡ Some x → IsSome (f x)) → IsSome (option_and_then f o)
then_some f (Some x) h each = each x refl
then_some f None h each = absurd cc

at_index : (P : Const → Type 0) (places : List Place) (i : ℕ) (c : Const) → AllByRecursion (OfEntry P) places → option_and_then entry_of (slice_get places i) ≡ Some c → P c
at_index P [] i c all e = absurd cc
at_index P (Entry d ∷ places) zero c all e = let same : d ≡ c = cc in rw same at all.0
at_index P (Second ∷ places) zero c all e = absurd cc
at_index P (Entry d ∷ places) (suc i) c all e = at_index P places i c all.1 e
at_index P (Second ∷ places) (suc i) c all e = at_index P places i c all.1 e

module _ (places : List Place) (pool : IsPool places) where
  names_at : (i : ℕ) (c : Const) → const_at places i ≡ Some c → Names places c
  names_at zero c e = absurd cc
  names_at (suc i) c e = at_index (Names places) places i c pool.names e

  -- what an entry of such a tag answers
  tagged : {A : Type 0} (T : ℕ → Type 0) (f : Const → Option A) → ((c : Const) → Names places c → T (tag c) → IsSome (f c)) → (i : ℕ) → IsSomeAnd (tag_at places i) T → IsSome (option_and_then f (const_at places i))
  tagged {A = A} T f each i h = by_entry (const_at places i) (names_at i) h where
    by_entry : (o : Option Const) → ((c : Const) → o ≡ Some c → Names places c) → IsSomeAnd (option_map tag o) T → IsSome (option_and_then f o)
    by_entry (Some c) names t = each c (names c refl) t
    by_entry None names t = absurd t

  same_tag : (t : ℕ) (o : Option ℕ) → o ≡ Some t → IsSomeAnd o (λ n. n ≡ t)
  same_tag t (Some n) e = cc
  same_tag t None e = absurd cc

  text_there : (i : ℕ) → IsUtf8At places i → IsSome (text_at places i)
  text_there i h = tagged (λ n. n ≡ 1) text_of (λ c names e. of_tag c e) i (same_tag 1 (tag_at places i) h) where
    of_tag : (c : Const) → tag c ≡ 1 → IsSome (text_of c)
    of_tag (Utf8 text) e = refl
    of_tag _ e = absurd (omega (arith, e))

  class_there : (i : ℕ) → IsClassAt places i → IsSome (class_at places i)
  class_there i h = tagged (λ n. n ≡ 7) (class_of places) of_tag i (same_tag 7 (tag_at places i) h) where
    of_tag : (c : Const) → Names places c → tag c ≡ 7 → IsSome (class_of places c)
    of_tag (Class name) names e = text_there name names
    of_tag _ names e = absurd (omega (arith, e))

  pair_there : (i : ℕ) → IsNameAndTypeAt places i → IsSome (name_and_type_at places i)
  pair_there i h = tagged (λ n. n ≡ 12) (name_and_type_of places) of_tag i (same_tag 12 (tag_at places i) h) where
    of_tag : (c : Const) → Names places c → tag c ≡ 12 → IsSome (name_and_type_of places c)
    of_tag (NameAndType name descriptor) names e =
        then_some (λ n. option_and_then (λ d. Some (n, d)) (text_at places descriptor)) (text_at places name) (text_there name names.0) (λ n _. then_some (λ d. Some (n, d)) (text_at places descriptor) (text_there descriptor names.1) (λ d _. refl))
    of_tag _ names e = absurd (omega (arith, e))

  member_named : (kind : MemberTag) (class member : ℕ) → IsClassAt places class × IsNameAndTypeAt places member → IsSome (named_member kind places class member)
  member_named kind class member h =
      then_some (λ o. option_and_then (λ m. Some (kind, o, m.0, m.1)) (name_and_type_at places member)) (class_at places class) (class_there class h.0) (λ o _. then_some (λ m. Some (kind, o, m.0, m.1)) (name_and_type_at places member) (pair_there member h.1) (λ m _. refl))

  member_there : (i : ℕ) → IsMemberAt places i → IsSome (member_at places i)
  member_there i h = tagged IsMemberTag (member_of_entry places) of_tag i h where
    of_tag : (c : Const) → Names places c → IsMemberTag (tag c) → IsSome (member_of_entry places c)
    of_tag (Field class member) names e = member_named _ class member names
    of_tag (Method class member) names e = member_named _ class member names
    of_tag (InterfaceMethod class member) names e = member_named _ class member names
    of_tag _ names e = absurd (omega (arith, e.0, e.1))

  pub text_exactly : (i : ℕ) → IsSome (text_at places i) ↔ IsUtf8At places i
  text_exactly i = (text_stands (const_at places i), text_there i)

  pub class_exactly : (i : ℕ) → IsSome (class_at places i) ↔ IsClassAt places i
  class_exactly i = (class_stands places (const_at places i), class_there i)

  pub pair_exactly : (i : ℕ) → IsSome (name_and_type_at places i) ↔ IsNameAndTypeAt places i
  pair_exactly i = (pair_stands places (const_at places i), pair_there i)

  pub member_exactly : (i : ℕ) → IsSome (member_at places i) ↔ IsMemberAt places i
  member_exactly i = (member_stands places (const_at places i), member_there i)
