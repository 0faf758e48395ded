-- The numbers of what constants say are within the range of their types.
use Rattle.std.proofs.Common.{◌≡◌, ℕ, zero, suc, ◌<◌, ◌^◌, List, [], ◌∷◌, Option, Some, None, subst}
use Rattle.std.specs.Prelude.{FitsSigned, IfSome, option_and_then, slice_get}
use Rattle.std.specs.Int.{w32, w64}
use Rattle.std.specs.List.{AllByRecursion}
use Rattle.je_consts.specs.declared.constant.Const.{Const}
use Rattle.je_consts.specs.declared.constant.Const.TheVariants as entry
use Rattle.je_consts.specs.declared.constant.MemberTag.TheVariants.{Field, Method, InterfaceMethod}
use Rattle.je_consts.specs.declared.place.Place.{Place}
use Rattle.je_consts.specs.declared.place.Place.TheVariants.{Entry, Second}
use Rattle.je_consts.specs.Pool.{entry_of, const_at, text_at, class_at, name_and_type_at, Fits, OfEntry, IsPool}
use Rattle.je_machine.specs.Content.{Content, Integer, Float, LongInteger, Double, Class, Str, Member, NameAndType, MethodHandle, MethodType, InvokeDynamic}
use Rattle.je_instr.specs.Content.{of_text, of_name_and_type, of_member, handle_of, content_of, content_at}

abbrev pub ContentFits : Content → Type 0
ContentFits (Integer n) = FitsSigned w32 n
ContentFits (Float bits) = bits < 2 ^ 32
ContentFits (LongInteger n) = FitsSigned w64 n
ContentFits (Double bits) = bits < 2 ^ 64
ContentFits _ = Unit {0}

-- ---- look-ups

chained : {A B : Type 0} (P : A → Type 0) (Q : B → Type 0) (f : A → Option B) (o : Option A) → IfSome o P → ((a : A) → P a → IfSome (f a) Q) → IfSome (option_and_then f o) Q
chained P Q f None h each = tt
chained P Q f (Some a) h each = each a h

-- whatever was looked up
each_holds : {A B : Type 0} (Q : B → Type 0) (f : A → Option B) (o : Option A) → ((a : A) → IfSome (f a) Q) → IfSome (option_and_then f o) Q
each_holds Q f None each = tt
each_holds Q f (Some a) each = each a

text_fits : (made : List ℕ → Content) (consts : List Place) (i : ℕ) → ((t : List ℕ) → ContentFits (made t)) → IfSome (of_text made consts i) ContentFits
text_fits made consts i each = each_holds ContentFits (λ t. Some (made t)) (text_at consts i) each

pair_fits : (made : List ℕ → List ℕ → Content) (consts : List Place) (i : ℕ) → ((n d : List ℕ) → ContentFits (made n d)) → IfSome (of_name_and_type made consts i) ContentFits
pair_fits made consts i each = each_holds ContentFits (λ m. Some (made m.0 m.1)) (name_and_type_at consts i) (λ m. each m.0 m.1)

member_fits : (made : List ℕ → List ℕ → List ℕ → Content) (consts : List Place) (class member : ℕ) → ((c n d : List ℕ) → ContentFits (made c n d)) → IfSome (of_member made consts class member) ContentFits
member_fits made consts class member each =
    each_holds ContentFits (λ c. of_name_and_type (made c) consts member) (class_at consts class) (λ c. pair_fits (made c) consts member (each c))

handle_fits : (kind : ℕ) (consts : List Place) (e : Const) → IfSome (handle_of kind consts e) ContentFits
handle_fits kind consts (entry.Field class member) = member_fits (MethodHandle kind Field) consts class member (λ c n d. tt)
handle_fits kind consts (entry.Method class member) = member_fits (MethodHandle kind Method) consts class member (λ c n d. tt)
handle_fits kind consts (entry.InterfaceMethod class member) = member_fits (MethodHandle kind InterfaceMethod) consts class member (λ c n d. tt)
handle_fits kind consts _ = tt

-- ---- entries

entry_fits : (consts : List Place) (e : Const) → Fits e → IfSome (content_of consts e) ContentFits
entry_fits consts (entry.Utf8 text) h = tt
entry_fits consts (entry.Integer n) h = h
entry_fits consts (entry.Float bits) h = h
entry_fits consts (entry.Long n) h = h
entry_fits consts (entry.Double bits) h = h
entry_fits consts (entry.Class name) h = text_fits Class consts name (λ t. tt)
entry_fits consts (entry.Str text) h = text_fits Str consts text (λ t. tt)
entry_fits consts (entry.Field class member) h = member_fits (Member Field) consts class member (λ c n d. tt)
entry_fits consts (entry.Method class member) h = member_fits (Member Method) consts class member (λ c n d. tt)
entry_fits consts (entry.InterfaceMethod class member) h = member_fits (Member InterfaceMethod) consts class member (λ c n d. tt)
entry_fits consts (entry.NameAndType name descriptor) h =
    each_holds ContentFits (λ n. of_text (NameAndType n) consts descriptor) (text_at consts name) (λ n. text_fits (NameAndType n) consts descriptor (λ t. tt))
entry_fits consts (entry.MethodHandle kind member) h = each_holds ContentFits (handle_of kind consts) (const_at consts member) (handle_fits kind consts)
entry_fits consts (entry.MethodType descriptor) h = text_fits MethodType consts descriptor (λ t. tt)
entry_fits consts (entry.InvokeDynamic bootstrap member) h = pair_fits (InvokeDynamic bootstrap) consts member (λ n d. tt)

place_fits : (places : List Place) (i : ℕ) → AllByRecursion (OfEntry Fits) places → IfSome (option_and_then entry_of (slice_get places i)) Fits
place_fits [] i h = tt
place_fits (Entry e ∷ places) zero h = h.0
place_fits (Second ∷ places) zero h = tt
place_fits (p ∷ places) (suc i) h = place_fits places i h.1

const_fits : (places : List Place) (i : ℕ) → AllByRecursion (OfEntry Fits) places → IfSome (const_at places i) Fits
const_fits places zero h = tt
const_fits places (suc i) h = place_fits places i h

pub content_fits : (consts : List Place) (i : ℕ) (c : Content) → IsPool consts → content_at consts i ≡ Some c → ContentFits c
content_fits consts i c pool there =
    let fits : IfSome (content_at consts i) ContentFits = chained Fits ContentFits (content_of consts) (const_at consts i) (const_fits consts i pool.fits) (entry_fits consts) in
    subst (λ (o : Option Content). IfSome o ContentFits) there fits
