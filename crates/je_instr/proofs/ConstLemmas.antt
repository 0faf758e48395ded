-- What constants are allowed to say, by what was looked up.
use Rattle.std.proofs.Common.{◌≡◌, ℕ, ◌-◌, ◌<◌, arith, Bool, true, List, Option, Some, None, refl}
use Rattle.std.proofs.Common.{sym, ap, subst, ◌∙◌, ◌⊎◌, ◌↔◌, inl, inr}
use Rattle.std.specs.Prelude.{IsTrue}
use Rattle.je_consts.specs.declared.constant.MemberTag.{MemberTag}
use Rattle.je_machine.specs.Content.{Content, Integer, Float, LongInteger, Double, Class, Str}
use Rattle.je_machine.specs.Content.{Member, MethodHandle, MethodType, InvokeDynamic}
use Rattle.std.specs.Prelude.{◌≢◌, IfSome, IfNone}
use Rattle.je_desc.specs.Descriptor.{MethodTypes, units_of_params}
use Rattle.je_consts.specs.declared.constant.MemberTag.TheVariants as tags
use Rattle.je_machine.specs.Action.{Sort, Interface, Dynamic}
use Rattle.je_instr.specs.Allowed.{IsClass, IsClassText, IsField, AllowsField, IsMethod, IsDynamic}
use Rattle.je_instr.specs.Allowed.{Calls, AllowsCall, AllowsCounted, AllowsLdc, AllowsLdc2}
use Rattle.je_instr.proofs.DescriptorLemmas.{one_method}
use Rattle.je_instr.specs.Views.{of_class, of_any, of_dynamic, is_loaded, is_wide, CallsWith}

some_is : {A : Type 0} (x y : A) → Some x ≡ Some y → x ≡ y
some_is x y e = cc

no_some : {A : Type 0} (x : A) → None ≡ Some x → ⊥
no_some x e = cc

abbrev In : Option Content → (Content → Type 0) → Type 0
In o P = (content : Content) × (o ≡ Some content) × P content

in_some : (c : Content) (P : Content → Type 0) → In (Some c) P → P c
in_some c P (d, e, h) = subst P (sym (some_is c d e)) h

in_none : (P : Content → Type 0) → In None P → ⊥
in_none P (d, e, h) = no_some d e

-- ---- ldc2_w

wide_allows : (c : Content) → (is_wide (Some c) ≡ true → AllowsLdc2 c) × (AllowsLdc2 c → is_wide (Some c) ≡ true)
wide_allows (LongInteger n) = (λ e. tt, λ h. refl)
wide_allows (Double bits) = (λ e. tt, λ h. refl)
wide_allows _ = (λ e. absurd (let n = e in cc), λ h. absurd h)

pub wide_in : (o : Option Content) (b : Bool) → b ≡ is_wide o → IsTrue b ↔ In o AllowsLdc2
wide_in (Some c) b e =
    (λ h. (c, refl, (wide_allows c).0 (sym e ∙ h)), λ k. e ∙ (wide_allows c).1 (in_some c AllowsLdc2 k))
wide_in None b e = (λ h. absurd (let n = sym e ∙ h in cc), λ k. absurd (in_none AllowsLdc2 k))

-- ---- classes

class_allows : (c : Content) (P : List ℕ → Type 0) (text : List ℕ) → Some text ≡ of_class (Some c) → (P text → IsClass P c) × (IsClass P c → P text)
class_allows (Class name) P text e = let same = some_is text name e in (λ h. subst P same h, λ h. subst P (sym same) h)
class_allows _ P text e = absurd (let n = e in cc)

no_class : (c : Content) (P : List ℕ → Type 0) → None ≡ of_class (Some c) → IsClass P c → ⊥
no_class (Class name) P e h = absurd (let n = e in cc)
no_class _ P e h = h

pub class_in : (o : Option Content) (P : List ℕ → Type 0) (text : List ℕ) (b : Bool) → Some text ≡ of_class o → IsTrue b ↔ P text → IsTrue b ↔ In o (IsClass P)
class_in (Some c) P text b e iff =
    (λ h. (c, refl, (class_allows c P text e).0 (iff.0 h)), λ k. iff.1 ((class_allows c P text e).1 (in_some c (IsClass P) k)))
class_in None P text b e iff = absurd (let n = e in cc)

pub class_no : (o : Option Content) (P : List ℕ → Type 0) → None ≡ of_class o → In o (IsClass P) → ⊥
class_no (Some c) P e k = no_class c P e (in_some c (IsClass P) k)
class_no None P e k = in_none (IsClass P) k

-- ---- ldc

loaded_allows : (c : Content) → is_loaded (Some c) ≡ true → AllowsLdc c
loaded_allows (Integer n) e = tt
loaded_allows (Float bits) e = tt
loaded_allows (Str text) e = tt
loaded_allows (MethodHandle kind tag class name text) e = tt
loaded_allows (MethodType text) e = tt
loaded_allows _ e = absurd (let n = e in cc)

allows_loaded : (c : Content) → AllowsLdc c → (is_loaded (Some c) ≡ true) ⊎ IsClass IsClassText c
allows_loaded (Integer n) h = inl refl
allows_loaded (Float bits) h = inl refl
allows_loaded (Str text) h = inl refl
allows_loaded (MethodHandle kind tag class name text) h = inl refl
allows_loaded (MethodType text) h = inl refl
allows_loaded (Class text) h = inr h
allows_loaded _ h = absurd h

class_loaded : (c : Content) → IsClass IsClassText c → AllowsLdc c
class_loaded (Class text) h = h
class_loaded _ h = absurd h

pub loaded_in : (o : Option Content) → is_loaded o ≡ true → In o AllowsLdc
loaded_in (Some c) e = (c, refl, loaded_allows c e)
loaded_in None e = absurd (let n = e in cc)

pub class_loaded_in : (o : Option Content) → In o (IsClass IsClassText) → In o AllowsLdc
class_loaded_in o (c, e, h) = (c, e, class_loaded c h)

pub in_loaded : (o : Option Content) → In o AllowsLdc → (is_loaded o ≡ true) ⊎ In o (IsClass IsClassText)
in_loaded (Some c) k = elim (allows_loaded c (in_some c AllowsLdc k)) [
  | inl h ↦ inl h
  | inr h ↦ inr (c, refl, h)
]
in_loaded None k = absurd (in_none AllowsLdc k)

-- ---- members

abbrev Found : Type 0
Found = MemberTag × List ℕ × List ℕ × List ℕ

abbrev member_made : Found → Content
member_made v = Member v.0 v.1 v.2 v.3

any_is : (o : Option Content) (v : Found) → Some v ≡ of_any o → o ≡ Some (member_made v)
any_is (Some (Member tag class name text)) v e = ap (λ (w : Found). Some (member_made w)) (sym (some_is v (tag, class, name, text) e))
any_is (Some _) v e = absurd (let n = e in cc)
any_is None v e = absurd (let n = e in cc)

-- what holds of the content that is there
in_at : (o : Option Content) (c : Content) (P : Content → Type 0) → o ≡ Some c → In o P → P c
in_at o c P e (d, here, h) = subst P (some_is d c (sym here ∙ e)) h

pub field_in : (o : Option Content) (class name text : List ℕ) (b : Bool) → Some (tags.Field, class, name, text) ≡ of_any o → IsTrue b ↔ IsField class name text → IsTrue b ↔ In o AllowsField
field_in o class name text b e iff =
    let here = any_is o (tags.Field, class, name, text) e in
    (λ h. (Member tags.Field class name text, here, iff.0 h), λ k. iff.1 (in_at o (Member tags.Field class name text) AllowsField here k))

pub call_some : (o : Option Content) (sort : Sort) (v : Found) (r : Option ℕ) → Some v ≡ of_any o
    → IfSome r (λ n. (m : MethodTypes) × IsMethod sort v.0 v.1 v.2 v.3 m × (n ≡ units_of_params m)) → IfSome r (λ n. In o (CallsWith sort n))
call_some o sort v (Some n) e h = (member_made v, any_is o v e, h)
call_some o sort v None e h = h

pub call_none : (o : Option Content) (sort : Sort) (v : Found) (r : Option ℕ) → Some v ≡ of_any o
    → IfNone r ((m : MethodTypes) → IsMethod sort v.0 v.1 v.2 v.3 m → ⊥) → IfNone r (In o (AllowsCall sort) → ⊥)
call_none o sort v (Some n) e h = h
call_none o sort v None e h = λ k. let call = in_at o (member_made v) (AllowsCall sort) (any_is o v e) k in h call.0 call.1

no_call : (c : Content) (sort : Sort) → sort ≢ Dynamic → None ≡ of_any (Some c) → AllowsCall sort c → ⊥
no_call (Member tag class name text) sort other e h = absurd (let n = e in cc)
no_call (InvokeDynamic bootstrap name text) Dynamic other e h = other refl
no_call (InvokeDynamic bootstrap name text) _ other e h = h.1
no_call _ sort other e h = absurd h.1

pub call_no : (o : Option Content) (sort : Sort) → sort ≢ Dynamic → None ≡ of_any o → In o (AllowsCall sort) → ⊥
call_no (Some c) sort other e k = no_call c sort other e (in_some c (AllowsCall sort) k)
call_no None sort other e k = in_none (AllowsCall sort) k

pub with_call : (o : Option Content) (sort : Sort) (n : ℕ) → In o (CallsWith sort n) → In o (AllowsCall sort)
with_call o sort n (c, here, (m, calls, units)) = (c, here, (m, calls))

-- ---- dynamic calls

dynamic_is : (o : Option Content) (name text : List ℕ) → Some (name, text) ≡ of_dynamic o → (bootstrap : ℕ) × (o ≡ Some (InvokeDynamic bootstrap name text))
dynamic_is (Some (InvokeDynamic bootstrap n t)) name text e = (bootstrap, ap (λ (w : List ℕ × List ℕ). Some (InvokeDynamic bootstrap w.0 w.1)) (sym (some_is (name, text) (n, t) e)))
dynamic_is (Some _) name text e = absurd (let n = e in cc)
dynamic_is None name text e = absurd (let n = e in cc)

pub dynamic_in : (o : Option Content) (name text : List ℕ) (b : Bool) → Some (name, text) ≡ of_dynamic o → IsTrue b ↔ ((m : MethodTypes) × IsDynamic name text m) → IsTrue b ↔ In o (AllowsCall Dynamic)
dynamic_in o name text b e iff =
    let here = dynamic_is o name text e in
    (λ h. (InvokeDynamic here.0 name text, here.1, iff.0 h), λ k. iff.1 (in_at o (InvokeDynamic here.0 name text) (AllowsCall Dynamic) here.1 k))

no_dynamic : (c : Content) → None ≡ of_dynamic (Some c) → AllowsCall Dynamic c → ⊥
no_dynamic (InvokeDynamic bootstrap name text) e h = absurd (let n = e in cc)
no_dynamic (Member tag class name text) e h = h.1.takes_tag
no_dynamic _ e h = absurd h.1

pub dynamic_no : (o : Option Content) → None ≡ of_dynamic o → In o (AllowsCall Dynamic) → ⊥
dynamic_no (Some c) e k = no_dynamic c e (in_some c (AllowsCall Dynamic) k)
dynamic_no None e k = in_none (AllowsCall Dynamic) k

-- ---- counted calls

same_units : (c : Content) (m n : MethodTypes) → Calls Interface m c → Calls Interface n c → units_of_params m ≡ units_of_params n
same_units (Member tag class name text) m n h k = ap units_of_params (one_method text m n h.descriptor k.descriptor)
same_units _ m n h k = absurd h

pub counted_in : (o : Option Content) (count n : ℕ) → 0 < count → In o (CallsWith Interface n) → (n ≡ count - 1 → In o (AllowsCounted count)) × (In o (AllowsCounted count) → n ≡ count - 1)
counted_in o count n some (c, here, (m, calls, units)) = (
  λ e. (c, here, (m, calls, omega (arith, e, units, some))),
  λ k.
      let other = in_at o c (AllowsCounted count) here k in
      let same = same_units c m other.0 calls other.1 in
      omega (arith, same, other.2, units, some),
)
