-- The built-in classes are fit.
use Rattle.std.proofs.Common.{◌≡◌, ℕ, ◌+◌, ◌≤◌, Bool, true, false, ◌&&◌, nat_eq, nat_le, cond, Option, Some, None, List, [], ◌∷◌, length, map, refl, subst, arith, inr, All}
use Rattle.std.specs.Prelude.{IfSome, IfOk, Result, Ok, Err}
use Rattle.std.specs.List.{AllByRecursion, list_all}
use Rattle.std.proofs.lemmas.Bool.{leb-true}
use Rattle.std.proofs.lemmas.Bool.Decides.{Decides-eqb}
use Rattle.std.proofs.lemmas.Slice.Eq.{slice_eq-Decides}
use Rattle.je_base.specs.Text.{is_same_text}
use Rattle.je_desc.specs.declared.summary.Summary.{Summary}
use Rattle.std.proofs.lemmas.List.Elements.{All-from_recursion, recursion_from_All}
use Rattle.std.proofs.lemmas.List.Sums.{AllPass-from_list_all}
use Rattle.je_desc.specs.Fit.{most_bytes, IsFitName, IsFitField, IsFitMethod, IsFit}
use Rattle.je_desc.specs.Names.{IsNameByte, IsClassName}
use Rattle.je_desc.specs.FieldType.{FieldType, Base, Object, Array, IsFieldType, descriptor}
use Rattle.je_desc.specs.Descriptor.{most_units, units_of_params, IsMethodTypes, method_descriptor}
use Rattle.je_builtin.specs.Words.{FieldLine, MethodLine, ClassLine, field_of, method_of, summary_of}
use Rattle.je_builtin.specs.BuiltIns.{class_lines, built_ins, class_named}

-- ---- tests of lines

abbrev byte_fits : ℕ → Bool
byte_fits b = cond (nat_eq b 46) false (cond (nat_eq b 59) false (cond (nat_eq b 91) false true))

abbrev is_some : List ℕ → Bool
is_some [] = false
is_some (b ∷ bytes) = true

abbrev is_short : List ℕ → Bool
is_short text = nat_le (length text) most_bytes

abbrev class_fits : List ℕ → Bool
class_fits name = is_some name && list_all byte_fits name

abbrev name_fits : List ℕ → Bool
name_fits name = class_fits name && is_short name

abbrev name_may_fit : Option (List ℕ) → Bool
name_may_fit None = true
name_may_fit (Some name) = name_fits name

abbrev type_fits : FieldType → Bool
type_fits (Base base) = true
type_fits (Object name) = class_fits name
type_fits (Array component) = false

abbrev result_fits : Option FieldType → Bool
result_fits None = true
result_fits (Some t) = type_fits t

abbrev field_fits : FieldLine → Bool
field_fits f = type_fits f.type && (is_short f.name && is_short (descriptor f.type))

abbrev method_fits : MethodLine → Bool
method_fits m =
    (list_all type_fits m.types.params && (result_fits m.types.result && nat_le (units_of_params m.types + 1) most_units))
    && (is_short m.name && is_short (method_descriptor m.types))

abbrev line_fits : ClassLine → Bool
line_fits c =
    (name_fits c.name && name_may_fit c.super_name)
    && (list_all name_fits c.interfaces && (list_all field_fits c.fields && list_all method_fits c.methods))

-- ---- what they say

no : false ≡ true → ⊥
no e = cc

both : (a b : Bool) → (a && b) ≡ true → (a ≡ true) × (b ≡ true)
both true b e = (refl, e)
both false b e = absurd (no e)

all_of : {X : Type 0} (p : X → Bool) (P : X → Type 0) → ((x : X) → p x ≡ true → P x) → (xs : List X) → list_all p xs ≡ true → All P xs
all_of p P go xs e = λ k d h. go _ (AllPass-from_list_all p xs e k d h)

mapped : {X Y : Type 0} (p : X → Bool) (f : X → Y) (P : Y → Type 0) → ((x : X) → p x ≡ true → P (f x)) → (xs : List X) → AllByRecursion (λ x. p x ≡ true) xs → AllByRecursion P (map f xs)
mapped p f P go [] h = tt
mapped p f P go (x ∷ xs) h = (go x h.0, mapped p f P go xs h.1)

all_mapped : {X Y : Type 0} (p : X → Bool) (f : X → Y) (P : Y → Type 0) → ((x : X) → p x ≡ true → P (f x)) → (xs : List X) → list_all p xs ≡ true → All P (map f xs)
all_mapped p f P go xs e =
    All-from_recursion P (map f xs) (mapped p f P go xs (recursion_from_All (λ x. p x ≡ true) xs (AllPass-from_list_all p xs e)))

byte_name : (b : ℕ) → byte_fits b ≡ true → IsNameByte b
byte_name b e = (
  λ at. no (subst (λ n. byte_fits n ≡ true) at e),
  λ at. no (subst (λ n. byte_fits n ≡ true) at e),
  λ at. no (subst (λ n. byte_fits n ≡ true) at e),
)

class_name : (name : List ℕ) → class_fits name ≡ true → IsClassName name
class_name name e =
    let h = both (is_some name) (list_all byte_fits name) e in
    (λ at. no (subst (λ n. is_some n ≡ true) at h.0), all_of byte_fits IsNameByte byte_name name h.1)

short : (text : List ℕ) → is_short text ≡ true → length text ≤ most_bytes
short text e = leb-true (length text) most_bytes e

fit_name : (name : List ℕ) → name_fits name ≡ true → IsFitName name
fit_name name e =
    let h = both (class_fits name) (is_short name) e in
    record { class_name = class_name name h.0; short = short name h.1 }

fit_super : (name : Option (List ℕ)) → name_may_fit name ≡ true → IfSome name IsFitName
fit_super None e = tt
fit_super (Some name) e = fit_name name e

field_type : (t : FieldType) → type_fits t ≡ true → IsFieldType t
field_type (Base base) e = record { named = tt; within = omega arith }
field_type (Object name) e = record { named = class_name name e; within = omega arith }
field_type (Array component) e = absurd (no e)

result_type : (t : Option FieldType) → result_fits t ≡ true → IfSome t IsFieldType
result_type None e = tt
result_type (Some t) e = field_type t e

fit_field : (f : FieldLine) → field_fits f ≡ true → IsFitField (field_of f)
fit_field f e =
    let h = both (type_fits f.type) (is_short f.name && is_short (descriptor f.type)) e in
    let s = both (is_short f.name) (is_short (descriptor f.type)) h.1 in
    record {
      descriptor = (f.type, (field_type f.type h.0, refl));
      name_short = short f.name s.0;
      descriptor_short = short (descriptor f.type) s.1;
    }

fit_method : (m : MethodLine) → method_fits m ≡ true → IsFitMethod (method_of m)
fit_method m e =
    let h = both (list_all type_fits m.types.params && (result_fits m.types.result && nat_le (units_of_params m.types + 1) most_units)) (is_short m.name && is_short (method_descriptor m.types)) e in
    let s = both (is_short m.name) (is_short (method_descriptor m.types)) h.1 in
    let t = both (list_all type_fits m.types.params) (result_fits m.types.result && nat_le (units_of_params m.types + 1) most_units) h.0 in
    let u = both (result_fits m.types.result) (nat_le (units_of_params m.types + 1) most_units) t.1 in
    let within : units_of_params m.types + 1 ≤ most_units = leb-true (units_of_params m.types + 1) most_units u.1 in
    let types : IsMethodTypes m.types = record {
      params = recursion_from_All IsFieldType m.types.params (all_of type_fits IsFieldType field_type m.types.params t.0);
      result = result_type m.types.result u.0;
      within = omega (arith, within);
    } in
    record {
      descriptor = (units_of_params m.types, (m.types, (types, refl), refl), inr within);
      name_short = short m.name s.0;
      descriptor_short = short (method_descriptor m.types) s.1;
    }

fit_line : (c : ClassLine) → line_fits c ≡ true → IsFit (summary_of c)
fit_line c e =
    let h = both (name_fits c.name && name_may_fit c.super_name) (list_all name_fits c.interfaces && (list_all field_fits c.fields && list_all method_fits c.methods)) e in
    let n = both (name_fits c.name) (name_may_fit c.super_name) h.0 in
    let r = both (list_all name_fits c.interfaces) (list_all field_fits c.fields && list_all method_fits c.methods) h.1 in
    let m = both (list_all field_fits c.fields) (list_all method_fits c.methods) r.1 in
    record {
      name = fit_name c.name n.0;
      super_name = fit_super c.super_name n.1;
      interfaces = all_of name_fits IsFitName fit_name c.interfaces r.0;
      fields = all_mapped field_fits field_of IsFitField fit_field c.fields m.0;
      methods = all_mapped method_fits method_of IsFitMethod fit_method c.methods m.1;
    }

-- ---- the table

lines_fit : list_all line_fits class_lines ≡ true
unfolding class_lines
lines_fit = refl

pub built_ins_fit : All IsFit built_ins
unfolding built_ins
built_ins_fit = all_mapped line_fits summary_of IsFit fit_line class_lines lines_fit

-- ---- the class of a name

same_text : (a b : List ℕ) → is_same_text a b ≡ true → a ≡ b
same_text a b same = (slice_eq-Decides Decides-eqb a b (is_same_text a b) refl).0 same

here : (b : Bool) (c : Summary) (rest : Option Summary) (P : Summary → Type 0) → (b ≡ true → P c) → IfSome rest P → IfSome (cond b (Some c) rest) P
here true c rest P is h = is refl
here false c rest P is h = h

pub named_is : (name : List ℕ) (classes : List Summary) → IfSome (class_named name classes) (λ c. c.name ≡ name)
named_is name [] = tt
named_is name (c ∷ classes) =
    here (is_same_text c.name name) c (class_named name classes) (λ d. d.name ≡ name) (same_text c.name name) (named_is name classes)

named_fits : (name : List ℕ) (classes : List Summary) → AllByRecursion IsFit classes → IfSome (class_named name classes) IsFit
named_fits name [] h = tt
named_fits name (c ∷ classes) h =
    here (is_same_text c.name name) c (class_named name classes) IsFit (λ same. h.0) (named_fits name classes h.1)

pub named_fit : (name : List ℕ) (classes : List Summary) → All IsFit classes → IfSome (class_named name classes) IsFit
named_fit name classes h = named_fits name classes (recursion_from_All IsFit classes h)

-- ---- answers

pub answers_named : {E : Type 0} (name : List ℕ) (classes : List Summary) (r : Result (Option Summary) E) → IfOk r (λ found. found ≡ class_named name classes) → IfOk r (λ found. IfSome found (λ c. c.name ≡ name))
answers_named name classes (Ok found) is = rw is (named_is name classes)
answers_named name classes (Err why) is = tt

pub answers_fit : {E : Type 0} (name : List ℕ) (classes : List Summary) (r : Result (Option Summary) E) → All IsFit classes → IfOk r (λ found. found ≡ class_named name classes) → IfOk r (λ found. IfSome found IsFit)
answers_fit name classes (Ok found) fit is = rw is (named_fit name classes fit)
answers_fit name classes (Err why) fit is = tt
