-- The parts of two class files are of one layout, and a class file follows from its parts.
use Rattle.std.proofs.Common.{◌≡◌, ℕ, ◌+◌, ◌-◌, ◌≤◌, List, [], ◌∷◌, ◌++◌, length, take, drop, Result, Ok, Err, refl, sym, ap, subst, ◌∙◌, append_assoc, length-append, length-drop, arith}
use Rattle.std.proofs.lemmas.List.{append-nil, take_at}
use Rattle.je_base.specs.Bytes.{u2, IsThere}
use Rattle.je_base.specs.Parts.{U2, U4, Run, Nested, each, table_parts, AreOneLayout, Agree, OneValue, OneWay}
use Rattle.je_consts.specs.declared.fault.ConstFault.{ConstFault}
use Rattle.je_consts.specs.declared.place.Place.{Place}
use Rattle.je_consts.specs.Faults as in_pool
use Rattle.je_consts.specs.Layout.{entries_layout, pool_layout, IsPoolAt}
use Rattle.je_consts.specs.Pool.{IsPool}
use Rattle.je_class.specs.declared.fault.ClassFault.{ClassFault}
use Rattle.je_class.specs.declared.member.Attribute.{Attribute}
use Rattle.je_class.specs.declared.member.Member.{Member}
use Rattle.je_class.specs.Class.{Class}
use Rattle.je_class.specs.FileParts.{Test, IsMagic, IsVersion, NamesClass, NamesSuper, NamesText, NamesAttribute, DescribesField, DescribesMethod, pool_fault, class_format, Part, interface_parts, attribute_parts, member_parts, field_parts, method_parts, own_parts, lists_parts, parts}
use Rattle.je_class.specs.Reading.{Comes}
use Rattle.je_class.proofs.Same.{same_attribute, same_member, same_class}

-- ---- one layout

layout_then : (xs us ys vs : List Part) → AreOneLayout xs us → (xs ≡ us → AreOneLayout ys vs) → AreOneLayout (xs ++ ys) (us ++ vs)
layout_then [] [] ys vs layout rest = rest refl
layout_then (x ∷ xs) (u ∷ us) ys vs layout rest = (layout.0, λ e. layout_then xs us ys vs (layout.1 e) (λ es. rest (cc (e, es))))
layout_then _ _ ys vs layout rest = absurd layout

module _ {A : Type 0} (parts : A → List Part) (one : (x y : A) → AreOneLayout (parts x) (parts y)) where
  layout_each : (xs ys : List A) → length xs ≡ length ys → AreOneLayout (each parts xs) (each parts ys)
  layout_each [] [] e = tt
  layout_each [] (y ∷ ys) e = absurd (omega (arith, e))
  layout_each (x ∷ xs) [] e = absurd (omega (arith, e))
  layout_each (x ∷ xs) (y ∷ ys) e = layout_then (parts x) (parts y) (each parts xs) (each parts ys) (one x y) (λ same. layout_each xs ys (omega (arith, e)))

  layout_table : (xs ys : List A) → AreOneLayout (table_parts parts xs) (table_parts parts ys)
  layout_table xs ys = (λ e. refl, λ e. let len : length xs ≡ length ys = cc in layout_each xs ys len)

-- the access flags and what comes after them, whose indexes are of this constant pool
abbrev rest_parts : List Place → Class → List Part
rest_parts consts c =
    own_parts consts c.access c.this_class c.super_class ++ lists_parts consts c.interfaces c.fields c.methods c.attributes

module _ (consts : List Place) where
  interface_one : (i j : ℕ) → AreOneLayout (interface_parts consts i) (interface_parts consts j)
  interface_one i j = (λ e. ap (λ (n : ℕ). NamesClass consts n ∷ []) e, λ e. tt)

  attribute_one : (a b : Attribute) → AreOneLayout (attribute_parts consts a) (attribute_parts consts b)
  attribute_one a b = (λ e. ap (λ (n : ℕ). NamesAttribute consts n ∷ []) e, λ name. (λ e. refl, λ e. let len : length a.bytes ≡ length b.bytes = cc in ((len, λ e. refl), λ run. tt)))

  field_one : (m n : Member) → AreOneLayout (field_parts consts m) (field_parts consts n)
  field_one m n = (
    λ e. refl,
    λ access. (
      λ e. ap (λ (i : ℕ). NamesText consts i ∷ []) e,
      λ name. (
        λ e. ap (λ (i : ℕ). NamesText consts i ∷ DescribesField consts i ∷ []) e,
        λ descriptor. layout_table (attribute_parts consts) attribute_one m.attributes n.attributes,
      ),
    ),
  )

  describes_same : (a b d e : ℕ) → a ≡ b → d ≡ e → NamesText consts d ∷ DescribesMethod consts a d ∷ [] ≡ NamesText consts e ∷ DescribesMethod consts b e ∷ []
  describes_same a b d e access descriptor = cc

  method_one : (m n : Member) → AreOneLayout (method_parts consts m) (method_parts consts n)
  method_one m n = (
    λ e. refl,
    λ access. (
      λ e. ap (λ (i : ℕ). NamesText consts i ∷ []) e,
      λ name. (
        λ e. let same : m.access ≡ n.access = cc in describes_same m.access n.access m.descriptor n.descriptor same e,
        λ descriptor. layout_table (attribute_parts consts) attribute_one m.attributes n.attributes,
      ),
    ),
  )

  rest_one : (c d : Class) → AreOneLayout (rest_parts consts c) (rest_parts consts d)
  rest_one c d =
      let attributes = layout_table (attribute_parts consts) attribute_one c.attributes d.attributes in
      let methods = layout_then (table_parts (method_parts consts) c.methods) (table_parts (method_parts consts) d.methods) _ _ (layout_table (method_parts consts) method_one c.methods d.methods) (λ e. attributes) in
      let fields = layout_then (table_parts (field_parts consts) c.fields) (table_parts (field_parts consts) d.fields) _ _ (layout_table (field_parts consts) field_one c.fields d.fields) (λ e. methods) in
      let interfaces = layout_then (table_parts (interface_parts consts) c.interfaces) (table_parts (interface_parts consts) d.interfaces) _ _ (layout_table (interface_parts consts) interface_one c.interfaces d.interfaces) (λ e. fields) in
      (λ e. refl, λ access. (λ e. ap (λ (i : ℕ). NamesClass consts i ∷ []) e, λ this. (λ e. ap (λ (i : ℕ). NamesSuper consts i ∷ []) e, λ super. interfaces)))

class_layout_one : (magic other : ℕ) (c d : Class) → AreOneLayout (parts magic c) (parts other d)
class_layout_one magic other c d = (
  λ e. ap (λ (i : ℕ). IsMagic i ∷ []) e,
  λ first. (
    λ e. refl,
    λ minor. (
      λ e. ap (λ (i : ℕ). IsVersion i ∷ []) e,
      λ major. (
        tt,
        λ pools.
            let same : c.consts ≡ d.consts = cc in
            subst (λ (k : List Place). AreOneLayout (rest_parts c.consts c) (rest_parts k d)) same (rest_one c.consts c d),
      ),
    ),
  ),
)

-- ---- what the parts say

module _ (xs ys : List Part) where
  u2_heads : (n m : ℕ) (ts us : List Test) → U2 n ts ∷ xs ≡ U2 m us ∷ ys → (n ≡ m) × (xs ≡ ys)
  u2_heads n m ts us e = (cc, cc)

  u4_heads : (n m : ℕ) (ts us : List Test) → U4 n ts ∷ xs ≡ U4 m us ∷ ys → (n ≡ m) × (xs ≡ ys)
  u4_heads n m ts us e = (cc, cc)

  run_heads : (run other : List ℕ) → Run run [] ∷ xs ≡ Run other [] ∷ ys → (run ≡ other) × (xs ≡ ys)
  run_heads run other e = (cc, cc)

  pool_heads : (places others : List Place) → Nested places ∷ xs ≡ Nested others ∷ ys → (places ≡ others) × (xs ≡ ys)
  pool_heads places others e = (cc, cc)

-- equal parts are of equal structures
record Decides {A : Type 0} (parts : A → List Part) : Type 0 where
  pub one : (x y : A) (xs ys : List Part) → parts x ++ xs ≡ parts y ++ ys → (x ≡ y) × (xs ≡ ys)

module _ {A : Type 0} (parts : A → List Part) (decides : Decides parts) where
  each_same : (xs ys : List A) (us vs : List Part) → length xs ≡ length ys → each parts xs ++ us ≡ each parts ys ++ vs → (xs ≡ ys) × (us ≡ vs)
  each_same [] [] us vs len e = (refl, e)
  each_same [] (y ∷ ys) us vs len e = absurd (omega (arith, len))
  each_same (x ∷ xs) [] us vs len e = absurd (omega (arith, len))
  each_same (x ∷ xs) (y ∷ ys) us vs len e =
      let first = decides.one x y (each parts xs ++ us) (each parts ys ++ vs) (sym (append_assoc (parts x) (each parts xs) us) ∙ e ∙ append_assoc (parts y) (each parts ys) vs) in
      let rest = each_same xs ys us vs (omega (arith, len)) first.1 in
      (cc (first.0, rest.0), rest.1)

  table_decides : Decides (table_parts parts)
  table_decides = record {
    one = λ xs ys us vs e.
        let head = u2_heads (each parts xs ++ us) (each parts ys ++ vs) (length xs) (length ys) [] [] e in
        each_same xs ys us vs head.0 head.1;
  }

  table_same : (xs ys : List A) → table_parts parts xs ≡ table_parts parts ys → xs ≡ ys
  table_same xs ys e = (table_decides.one xs ys [] [] (append-nil (table_parts parts xs) ∙ e ∙ sym (append-nil (table_parts parts ys)))).0

module _ (consts : List Place) where
  interface_decides : Decides (interface_parts consts)
  interface_decides = record { one = λ i j us vs e. u2_heads us vs i j (NamesClass consts i ∷ []) (NamesClass consts j ∷ []) e }

  attribute_decides : Decides (attribute_parts consts)
  attribute_decides = record {
    one = λ a b us vs e.
        let name = u2_heads (U4 (length a.bytes) [] ∷ Run a.bytes [] ∷ us) (U4 (length b.bytes) [] ∷ Run b.bytes [] ∷ vs) a.name b.name (NamesAttribute consts a.name ∷ []) (NamesAttribute consts b.name ∷ []) e in
        let len = u4_heads (Run a.bytes [] ∷ us) (Run b.bytes [] ∷ vs) (length a.bytes) (length b.bytes) [] [] name.1 in
        let run = run_heads us vs a.bytes b.bytes len.1 in
        (same_attribute a b name.0 run.0, run.1);
  }

  abbrev after_name : (Member → List Test) → Member → List Part → List Part
  after_name tests m us = U2 m.descriptor (tests m) ∷ (table_parts (attribute_parts consts) m.attributes ++ us)

  abbrev after_access : (Member → List Test) → Member → List Part → List Part
  after_access tests m us = U2 m.name (NamesText consts m.name ∷ []) ∷ after_name tests m us

  member_decides : (tests : Member → List Test) → Decides (λ m. member_parts consts (tests m) m)
  member_decides tests = record {
    one = λ m n us vs e.
        let access = u2_heads (after_access tests m us) (after_access tests n vs) m.access n.access [] [] e in
        let name = u2_heads (after_name tests m us) (after_name tests n vs) m.name n.name (NamesText consts m.name ∷ []) (NamesText consts n.name ∷ []) access.1 in
        let descriptor = u2_heads (table_parts (attribute_parts consts) m.attributes ++ us) (table_parts (attribute_parts consts) n.attributes ++ vs) m.descriptor n.descriptor
        (tests m) (tests n) name.1 in
        let attributes = (table_decides (attribute_parts consts) attribute_decides).one m.attributes n.attributes us vs descriptor.1 in
        (same_member m n access.0 name.0 descriptor.0 attributes.0, attributes.1);
  }

  field_decides : Decides (field_parts consts)
  field_decides = member_decides (λ m. NamesText consts m.descriptor ∷ DescribesField consts m.descriptor ∷ [])

  method_decides : Decides (method_parts consts)
  method_decides = member_decides (λ m. NamesText consts m.descriptor ∷ DescribesMethod consts m.access m.descriptor ∷ [])

  record SameRest (c d : Class) : Type 0 where
    pub access : c.access ≡ d.access
    pub this_class : c.this_class ≡ d.this_class
    pub super_class : c.super_class ≡ d.super_class
    pub interfaces : c.interfaces ≡ d.interfaces
    pub fields : c.fields ≡ d.fields
    pub methods : c.methods ≡ d.methods
    pub attributes : c.attributes ≡ d.attributes

  abbrev after_fields : Class → List Part
  after_fields c = table_parts (method_parts consts) c.methods ++ table_parts (attribute_parts consts) c.attributes

  abbrev after_interfaces : Class → List Part
  after_interfaces c = table_parts (field_parts consts) c.fields ++ after_fields c

  abbrev tables : Class → List Part
  tables c = table_parts (interface_parts consts) c.interfaces ++ after_interfaces c

  rest_same : (c d : Class) → rest_parts consts c ≡ rest_parts consts d → SameRest c d
  rest_same c d e =
      let access = u2_heads (U2 c.this_class (NamesClass consts c.this_class ∷ []) ∷ U2 c.super_class (NamesSuper consts c.super_class ∷ []) ∷ tables c)
      (U2 d.this_class (NamesClass consts d.this_class ∷ []) ∷ U2 d.super_class (NamesSuper consts d.super_class ∷ []) ∷ tables d) c.access d.access [] [] e in
      let this = u2_heads (U2 c.super_class (NamesSuper consts c.super_class ∷ []) ∷ tables c) (U2 d.super_class (NamesSuper consts d.super_class ∷ []) ∷ tables d) c.this_class d.this_class
      (NamesClass consts c.this_class ∷ []) (NamesClass consts d.this_class ∷ []) access.1 in
      let super = u2_heads (tables c) (tables d) c.super_class d.super_class (NamesSuper consts c.super_class ∷ []) (NamesSuper consts d.super_class ∷ []) this.1 in
      let interfaces = (table_decides (interface_parts consts) interface_decides).one c.interfaces d.interfaces (after_interfaces c) (after_interfaces d) super.1 in
      let fields = (table_decides (field_parts consts) field_decides).one c.fields d.fields (after_fields c) (after_fields d) interfaces.1 in
      let methods = (table_decides (method_parts consts) method_decides).one c.methods d.methods (table_parts (attribute_parts consts) c.attributes) (table_parts (attribute_parts consts) d.attributes) fields.1 in
      record {
        access = access.0;
        this_class = this.0;
        super_class = super.0;
        interfaces = interfaces.0;
        fields = fields.0;
        methods = methods.0;
        attributes = table_same (attribute_parts consts) attribute_decides c.attributes d.attributes methods.1;
      }

class_same : (magic other : ℕ) (c d : Class) → parts magic c ≡ parts other d → c ≡ d
class_same magic other c d e =
    let first = u4_heads _ _ magic other (IsMagic magic ∷ []) (IsMagic other ∷ []) e in
    let minor = u2_heads _ _ c.minor d.minor [] [] first.1 in
    let major = u2_heads _ _ c.major d.major (IsVersion c.major ∷ []) (IsVersion d.major ∷ []) minor.1 in
    let pools = pool_heads (rest_parts c.consts c) (rest_parts d.consts d) c.consts d.consts major.1 in
    let rest = rest_same c.consts c d (subst (λ (k : List Place). rest_parts c.consts c ≡ rest_parts k d) (sym pools.0) pools.1) in
    same_class c d minor.0 major.0 pools.0 rest.access rest.this_class rest.super_class rest.interfaces rest.fields rest.methods rest.attributes

-- ---- the constant pool

pool_at : (bytes : List ℕ) (at : ℕ) (places : List Place) → IsThere bytes at (pool_layout places) → IsPool places → IsPoolAt bytes at (at + length (pool_layout places)) places
pool_at bytes at places there pool =
    let text = pool_layout places in
    let rest = drop (at + length text) bytes in
    let len : at + length text - at ≡ length text = omega arith in
    let two : 2 ≤ length text = omega (arith, length-append (u2 (length places + 1)) (entries_layout places)) in
    record {
      order = omega arith;
      within = omega (arith, ap length there, length-append text rest, length-drop at bytes, length-drop (at + length text) bytes);
      spelled = record { layout = ap (take (at + length text - at)) there ∙ take_at text rest (at + length text - at) (sym len); pool = pool };
    }

pub one_pool_value : ((bytes : List ℕ) (at end other : ℕ) (places others : List Place) → IsPoolAt bytes at end places → IsPoolAt bytes at other others → (places ≡ others) × (end ≡ other))
    → ((bytes : List ℕ) (at end : ℕ) (places : List Place) (d : ConstFault) → IsPoolAt bytes at end places → in_pool.FirstFault bytes at d → ⊥)
    → ((bytes : List ℕ) (at : ℕ) (d e : ConstFault) → in_pool.FirstFault bytes at d → in_pool.FirstFault bytes at e → d ≡ e) → OneValue class_format
one_pool_value same no_fault one_fault = record {
  same = λ bytes at x y h k. (same bytes at (at + length (pool_layout x)) (at + length (pool_layout y)) x y (pool_at bytes at x h.0 h.1) (pool_at bytes at y k.0 k.1)).0;
  no_fault = λ bytes at x d h f. no_fault bytes at (at + length (pool_layout x)) x f.0 (pool_at bytes at x h.0 h.1) f.1;
  one_fault = λ bytes at d e f k. f.2 ∙ ap pool_fault (one_fault bytes at f.0 k.0 f.1 k.1) ∙ sym k.2;
}

-- ---- the whole

agree_by : {A C : Type 0} (a b : A) (y z : C) (o p : Result ℕ ClassFault) → (a ≡ b → y ≡ z) → Agree a b o p → Agree y z o p
agree_by a b y z (Ok m) (Ok n) same h = (same h.0, h.1)
agree_by a b y z (Err d) (Err e) same h = h
agree_by a b y z (Ok m) (Err e) same h = h
agree_by a b y z (Err d) (Ok n) same h = h

-- two class files that the bytes follow, each to its end or to a fault
pub one_class : (way : OneWay class_format) (bytes : List ℕ) (magic other : ℕ) (c d : Class) (o p : Result ℕ ClassFault) → Comes bytes 0 (parts magic c) o → Comes bytes 0 (parts other d) p → Agree c d o p
one_class way bytes magic other c d o p h k =
    agree_by (parts magic c) (parts other d) c d o p (class_same magic other c d) (way.agree bytes 0 (parts magic c) (parts other d) o p (class_layout_one magic other c d) h k)
