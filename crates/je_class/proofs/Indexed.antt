-- An index of methods, with one more noted.
use Rattle.std.proofs.Common.{◌≡◌, ℕ, zero, suc, ◌<◌, ◌↔◌, Bool, true, false, cond, ◌&&◌, List, [], ◌∷◌, ◌++◌, length, Option, Some, None, IfSome, IfNone, IsTrue, refl, sym, ◌∙◌, arith, rules}
use Rattle.std.specs.Prelude.{All, slice_get}
use Rattle.std.proofs.lemmas.List.Elements.{All-from_recursion, recursion_from_All}
use Rattle.std.proofs.lemmas.Option.{slice_get_within}
use Rattle.je_base.specs.Text.{is_same_text}
use Rattle.je_class.specs.declared.member.Member.{Member}
use Rattle.je_class.specs.Class.{Class, IsNamed, IsMethodAt}
use Rattle.je_class.specs.Indexed.{Finds}
use Rattle.je_class.specs.Noted.{or_at, noted}
use Rattle.je_class.proofs.Alls.{all_join}
use Rattle.je_class.proofs.Changes.{IsSomeAnd-value}

same_text : (a b : List ℕ) → IsTrue (is_same_text a b) ↔ (a ≡ b)
same_text a b = search rules

get_before : {A : Type 0} (xs ys : List A) (i : ℕ) → i < length xs → slice_get (xs ++ ys) i ≡ slice_get xs i
get_before [] ys i lt = absurd (omega arith)
get_before (x ∷ xs) ys zero lt = refl
get_before (x ∷ xs) ys (suc i) lt = get_before xs ys i (omega arith)

get_at : {A : Type 0} (xs : List A) (x : A) → slice_get (xs ++ x ∷ []) (length xs) ≡ Some x
get_at [] x = refl
get_at (y ∷ xs) x = get_at xs x

all_get : {A : Type 0} (P : A → Type 0) (xs : List A) (i : ℕ) → All P xs → IfSome (slice_get xs i) P
all_get P [] i h = tt
all_get P (x ∷ xs) zero h = (recursion_from_All P (x ∷ xs) h).0
all_get P (x ∷ xs) (suc i) h = all_get P xs i (All-from_recursion P xs (recursion_from_All P (x ∷ xs) h).1)

all_more : {A : Type 0} (P : A → Type 0) (xs : List A) (x : A) → All P xs → P x → All P (xs ++ x ∷ [])
all_more P xs x h last =
    All-from_recursion P (xs ++ x ∷ []) (all_join P xs (x ∷ []) (recursion_from_All P xs h) (last, tt))

module _ (c : Class) (ms : List Member) (m : Member) where
  abbrev before : Class
  before = record c { methods = ms }

  abbrev more : Class
  more = record c { methods = ms ++ m ∷ [] }

  abbrev Other : List ℕ → List ℕ → Member → Type 0
  Other n d x = IsNamed c.consts n d x → ⊥

  method_before : (n d : List ℕ) (at : ℕ) → IsMethodAt before n d at → IsMethodAt more n d at
  method_before n d at h =
      let there = IsSomeAnd-value (slice_get ms at) (IsNamed c.consts n d) h.here in
      let within = slice_get_within ms at there.0 there.1 in
      record {
        here = rw (get_before ms (m ∷ []) at within) h.here;
        first = λ i lt. let lt' : i < length ms = omega arith in rw (get_before ms (m ∷ []) i lt') (h.first i lt);
      }

  method_new : (n d : List ℕ) → All (Other n d) ms → IsNamed c.consts n d m → IsMethodAt more n d (length ms)
  method_new n d none named = record {
    here = rw (get_at ms m) named;
    first = λ i lt. rw (get_before ms (m ∷ []) i lt) (all_get (Other n d) ms i none);
  }

  module _ (found : List ℕ → List ℕ → Option ℕ) (finds : Finds before found) (name descriptor : List ℕ) (named : IsNamed c.consts name descriptor m) where
    kept : (n d : List ℕ) (o : Option ℕ) → IfSome o (IsMethodAt before n d) → IfSome o (IsMethodAt more n d)
    kept n d (Some i) h = method_before n d i h
    kept n d None h = tt

    first_new : (o : Option ℕ) → IfSome o (IsMethodAt before name descriptor) → IfNone o (All (Other name descriptor) ms) → IfSome (or_at o (length ms)) (IsMethodAt more name descriptor)
    first_new (Some i) h none = method_before name descriptor i h
    first_new None h none = method_new name descriptor none named

    some_new : (o : Option ℕ) (P : Type 0) → IfNone (or_at o (length ms)) P
    some_new (Some i) P = tt
    some_new None P = tt

    -- another name or descriptor than that of the method
    none_other : (n d : List ℕ) (o : Option ℕ) → (name ≡ n → descriptor ≡ d → ⊥) → IfNone o (All (Other n d) ms) → IfNone o (All (Other n d) (ms ++ m ∷ []))
    none_other n d (Some i) other h = tt
    none_other n d None other h =
        all_more (Other n d) ms m h (λ (k : IsNamed c.consts n d m). let a = sym named.name_is ∙ k.name_is in let b = sym named.descriptor_is ∙ k.descriptor_is in let e : name ≡ n = cc in let f : descriptor ≡ d = cc in other e f)

    same_both : (n d : List ℕ) → IsTrue (is_same_text name n && is_same_text descriptor d) ↔ ((name ≡ n) × (descriptor ≡ d))
    same_both n d = search rules

    first_by : (n d : List ℕ) (b : Bool) → is_same_text name n && is_same_text descriptor d ≡ b → IfSome (cond b (or_at (found name descriptor) (length ms)) (found n d)) (IsMethodAt more n d)
    first_by n d true e =
        let same = (same_both n d).0 e in
        rw (← same.0, ← same.1) (first_new (found name descriptor) (finds.first name descriptor) (finds.none name descriptor))
    first_by n d false e = kept n d (found n d) (finds.first n d)

    none_by : (n d : List ℕ) (b : Bool) → is_same_text name n && is_same_text descriptor d ≡ b → IfNone (cond b (or_at (found name descriptor) (length ms)) (found n d)) (All (Other n d) (ms ++ m ∷ []))
    none_by n d true e = some_new (found name descriptor) (All (Other n d) (ms ++ m ∷ []))
    none_by n d false e =
        none_other n d (found n d) (λ h k. let t = (same_both n d).1 (h, k) in cc) (finds.none n d)

    pub finds_more : (after : List ℕ → List ℕ → Option ℕ) → ((n d : List ℕ) → after n d ≡ noted found name descriptor (length ms) n d) → Finds more after
    finds_more after after_is = record {
      first = λ n d. rw (after_is n d) (first_by n d (is_same_text name n && is_same_text descriptor d) refl);
      none = λ n d. rw (after_is n d) (none_by n d (is_same_text name n && is_same_text descriptor d) refl);
    }

pub finds_nothing : (c : Class) (found : List ℕ → List ℕ → Option ℕ) → ((n d : List ℕ) → found n d ≡ None) → Finds (record c { methods = [] }) found
finds_nothing c found none = record {
  first = λ n d. rw (none n d) tt;
  none = λ n d. rw (none n d) (All-from_recursion (λ m. IsNamed c.consts n d m → ⊥) [] tt);
}
