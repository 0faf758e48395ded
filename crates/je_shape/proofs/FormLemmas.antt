-- Descriptors of types are in modified UTF-8 where the names in them are.
use Rattle.std.proofs.Common.{◌≡◌, ℕ, List, [], ◌∷◌, ◌++◌, refl, sym, ap, ◌∙◌, append_assoc, lit≤}
use Rattle.std.specs.List.{AllByRecursion, flat_map}
use Rattle.std.proofs.lemmas.Grind.{flat_map-append}
use Rattle.je_base.specs.Text.{IsSingle, IsUnit, IsModifiedUtf8}
use Rattle.je_desc.specs.FieldType.{BaseType, Byte, Char, Double, Float, Int, Long, Short, Boolean, FieldType, Base, Object, Array, descriptor}

all_joined : (P : List ℕ → Type 0) (a b : List (List ℕ)) → AllByRecursion P a → AllByRecursion P b → AllByRecursion P (a ++ b)
all_joined P [] b h k = k
all_joined P (x ∷ a) b h k = (h.0, all_joined P a b h.1 k)

single : (b : ℕ) → IsSingle b → IsModifiedUtf8 (b ∷ [])
single b h = ((b ∷ []) ∷ [], (h, tt), refl)

joined : (a b : List ℕ) → IsModifiedUtf8 a → IsModifiedUtf8 b → IsModifiedUtf8 (a ++ b)
joined a b h k = (
  h.0 ++ k.0,
  all_joined IsUnit h.0 k.0 h.1 k.1,
  ap (λ (l : List ℕ). l ++ b) h.2 ∙ ap (λ (l : List ℕ). flat_map (λ unit. unit) h.0 ++ l) k.2
      ∙ sym (flat_map-append (λ unit. unit) h.0 k.0),
)

pub base_form : (b : BaseType) → IsModifiedUtf8 (descriptor (Base b))
base_form Byte = single 66 (lit≤ tt, lit≤ tt)
base_form Char = single 67 (lit≤ tt, lit≤ tt)
base_form Double = single 68 (lit≤ tt, lit≤ tt)
base_form Float = single 70 (lit≤ tt, lit≤ tt)
base_form Int = single 73 (lit≤ tt, lit≤ tt)
base_form Long = single 74 (lit≤ tt, lit≤ tt)
base_form Short = single 83 (lit≤ tt, lit≤ tt)
base_form Boolean = single 90 (lit≤ tt, lit≤ tt)

pub object_form : (name : List ℕ) → IsModifiedUtf8 name → IsModifiedUtf8 (descriptor (Object name))
object_form name h =
    joined (76 ∷ []) (name ++ 59 ∷ []) (single 76 (lit≤ tt, lit≤ tt))
    (joined name (59 ∷ []) h (single 59 (lit≤ tt, lit≤ tt)))

pub array_form : (t : FieldType) → IsModifiedUtf8 (descriptor t) → IsModifiedUtf8 (descriptor (Array t))
array_form t h = joined (91 ∷ []) (descriptor t) (single 91 (lit≤ tt, lit≤ tt)) h

pub object_text : (old a name b c : List ℕ) → a ≡ old ++ 76 ∷ [] → b ≡ a ++ name → c ≡ b ++ 59 ∷ [] → c ≡ old ++ descriptor (Object name)
object_text old a name b c e f g =
    g ∙ ap (λ (l : List ℕ). l ++ 59 ∷ []) (f ∙ ap (λ (l : List ℕ). l ++ name) e)
    ∙ ap (λ (l : List ℕ). l ++ 59 ∷ []) (append_assoc old (76 ∷ []) name)
    ∙ append_assoc old (76 ∷ name) (59 ∷ [])

pub array_text : (old a c : List ℕ) (t : FieldType) → a ≡ old ++ 91 ∷ [] → c ≡ a ++ descriptor t → c ≡ old ++ descriptor (Array t)
array_text old a c t e f =
    f ∙ ap (λ (l : List ℕ). l ++ descriptor t) e ∙ append_assoc old (91 ∷ []) (descriptor t)
