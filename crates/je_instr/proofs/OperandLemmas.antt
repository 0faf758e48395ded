-- What instructions with operands are.
use Rattle.std.proofs.Common.{◌≡◌, ◌≢◌, ℕ, ◌+◌, ◌≤◌, ℤ, pos, negsuc, Bool, true, false, cond, eqb}
use Rattle.std.proofs.Common.{IsSome, option_map, rules, List, [], ◌∷◌, ◌++◌, length, Option, Some}
use Rattle.std.proofs.Common.{None, refl, sym, ap, subst, ◌∙◌, ◌↔◌, arith, length-append}
use Rattle.std.specs.Prelude.{codes}
use Rattle.std.proofs.lemmas.Bool.{eqb-true}
use Rattle.je_consts.specs.declared.place.Place.{Place}
use Rattle.je_desc.specs.Descriptor.{MethodTypes, SpellsField, SpellsMethod, units_of_params}
use Rattle.je_desc.specs.FieldType.{FieldType, Object, Array, dimensions}
use Rattle.je_desc.specs.Names.{IsClassName}
use Rattle.je_machine.specs.Action.{Field, GetField, Virtual, Special, Static, Interface, Sort}
use Rattle.je_machine.specs.Action.{Invoke, NewArray}
use Rattle.je_machine.specs.Content.{Content}
use Rattle.je_consts.specs.declared.constant.MemberTag.{MemberTag}
use Rattle.je_consts.specs.declared.constant.MemberTag.TheVariants as tags
use Rattle.je_machine.specs.Content as content
use Rattle.je_machine.specs.Operation.{Act, Operation, Do, Push, Switch}
use Rattle.je_machine.specs.Value.{Value, Int, Long, Flt, Dbl, Const}
use Rattle.je_instr.specs.declared.instr.Instr.{Instr}
use Rattle.je_instr.specs.declared.instr.Instr.TheVariants as instr
use Rattle.je_instr.specs.Allowed.{IsPlainName, IsField, IsMadeOf, HasDimensions, IsClass, AreKeys}
use Rattle.je_instr.specs.Allowed.{AllowsLdc, AllowsLdc2, AllowsCall, AllowsCounted, Calls}
use Rattle.je_instr.specs.Allowed.{IsAllowed}
use Rattle.je_instr.specs.Content.{content_at, Names}
use Rattle.je_instr.specs.Opcodes.{beside, field_actions, sorts}
use Rattle.je_instr.specs.Resolves.{loaded, loaded2, CallOperation, OfType, Resolves}
use Rattle.je_instr.proofs.DescriptorLemmas.{one_method}
use Rattle.je_instr.proofs.OperationLemmas.{some_is, one_class, resolves_once}

-- what is one operation is no other
is_it : (consts : List Place) (i : Instr) (p o : Operation) → Resolves consts i p → Resolves consts i o ↔ (o ≡ p)
is_it consts i p o r = (λ s. resolves_once consts i o p s r, λ same. subst (Resolves consts i) (sym same) r)

-- the content that an instruction's constant is allowed to have
at_content : (P : Content → Type 0) (o : Option Content) (c d : Content) → o ≡ Some c → o ≡ Some d → P d → P c
at_content P o c d ec ed p = subst P (some_is d c (sym ed ∙ ec)) p

-- ---- loads

ldc_is : (consts : List Place) (index : ℕ) (c : Content) (v : Value) (o : Operation) → content_at consts index ≡ Some c → AllowsLdc c → loaded c ≡ Some v → Resolves consts (instr.Ldc index) o ↔ (o ≡ Do (Push v))
ldc_is consts index c v o here allowed is =
    is_it consts (instr.Ldc index) (Do (Push v)) o (record { allowed = (c, here, allowed); becomes = (c, here, rw is refl) })

ldc2_is : (consts : List Place) (index : ℕ) (c : Content) (v : Value) (o : Operation) → content_at consts index ≡ Some c → AllowsLdc2 c → loaded2 c ≡ Some v → Resolves consts (instr.Ldc2 index) o ↔ (o ≡ Do (Push v))
ldc2_is consts index c v o here allowed is =
    is_it consts (instr.Ldc2 index) (Do (Push v)) o (record { allowed = (c, here, allowed); becomes = (c, here, rw is refl) })

pub int_is : (consts : List Place) (index : ℕ) (n : ℤ) (o : Operation) → content_at consts index ≡ Some (content.Integer n) → Resolves consts (instr.Ldc index) o ↔ (o ≡ Do (Push (Int n)))
int_is consts index n o here = ldc_is consts index (content.Integer n) (Int n) o here tt refl

pub float_is : (consts : List Place) (index bits : ℕ) (o : Operation) → content_at consts index ≡ Some (content.Float bits) → Resolves consts (instr.Ldc index) o ↔ (o ≡ Do (Push (Flt bits)))
float_is consts index bits o here = ldc_is consts index (content.Float bits) (Flt bits) o here tt refl

pub string_is : (consts : List Place) (index : ℕ) (text : List ℕ) (o : Operation) → content_at consts index ≡ Some (content.Str text) → Resolves consts (instr.Ldc index) o ↔ (o ≡ Do (Push (Const (content.Str text))))
string_is consts index text o here = ldc_is consts index (content.Str text) (Const (content.Str text)) o here tt refl

pub class_is : (consts : List Place) (index : ℕ) (name : List ℕ) (o : Operation) → content_at consts index ≡ Some (content.Class name) → IsClassName name → Resolves consts (instr.Ldc index) o ↔ (o ≡ Do (Push (Const (content.Class name))))
class_is consts index name o here named = ldc_is consts index (content.Class name) (Const (content.Class name)) o here (Object name, (named, refl)) refl

pub long_is : (consts : List Place) (index : ℕ) (n : ℤ) (o : Operation) → content_at consts index ≡ Some (content.LongInteger n) → Resolves consts (instr.Ldc2 index) o ↔ (o ≡ Do (Push (Long n)))
long_is consts index n o here = ldc2_is consts index (content.LongInteger n) (Long n) o here tt refl

pub double_is : (consts : List Place) (index bits : ℕ) (o : Operation) → content_at consts index ≡ Some (content.Double bits) → Resolves consts (instr.Ldc2 index) o ↔ (o ≡ Do (Push (Dbl bits)))
double_is consts index bits o here = ldc2_is consts index (content.Double bits) (Dbl bits) o here tt refl

pub no_long : (consts : List Place) (index : ℕ) (n : ℤ) (o : Operation) → content_at consts index ≡ Some (content.LongInteger n) → Resolves consts (instr.Ldc index) o → ⊥
no_long consts index n o here r = let a = r.allowed in at_content AllowsLdc (content_at consts index) (content.LongInteger n) a.0 here a.1 a.2

pub no_int : (consts : List Place) (index : ℕ) (n : ℤ) (o : Operation) → content_at consts index ≡ Some (content.Integer n) → Resolves consts (instr.Ldc2 index) o → ⊥
no_int consts index n o here r = let a = r.allowed in at_content AllowsLdc2 (content_at consts index) (content.Integer n) a.0 here a.1 a.2

-- ---- members

getfield_is : (f : Field) → Some (Do (Act (GetField f))) ≡ option_map (λ make. Do (Act (make f))) (beside field_actions 180)
unfolding field_actions
getfield_is f = refl

getfield_there : IsSome (beside field_actions 180)
unfolding field_actions
getfield_there = refl

pub field_is : (consts : List Place) (index : ℕ) (class name text : List ℕ) (type : FieldType) (o : Operation) → content_at consts index ≡ Some (content.Member tags.Field class name text)
    → IsClassName class → IsPlainName name → SpellsField text type → Resolves consts (instr.Field 180 index) o ↔ (o ≡ Do (Act (GetField (record { class = class; name = name; type = type }))))
field_is consts index class name text type o here named plain spells =
    let f : Field = record { class = class; name = name; type = type } in
    let member = content.Member tags.Field class name text in
    let allowed : IsField class name text = record { class_text = (Object class, (named, refl)); plain = plain; descriptor = (type, spells) } in
    is_it consts (instr.Field 180 index) (Do (Act (GetField f))) o (record { allowed = (getfield_there, (member, here, allowed)); becomes = (member, here, (f, (refl, refl, spells), sym (getfield_is f))) })

module _ (consts : List Place) (index count : ℕ) (class name text : List ℕ) (types : MethodTypes) (here : content_at consts index ≡ Some (content.Member tags.InterfaceMethod class name text)) (named : IsClassName class) (plain : IsPlainName name) (spells : SpellsMethod text types) where
  abbrev member : Content
  member = content.Member tags.InterfaceMethod class name text

  abbrev call : Operation
  call = Do (Act (Invoke Interface member types))

  calls : Calls Interface types member
  calls = record {
    takes_tag = refl;
    class_text = (Object class, (named, refl));
    called = record { constructor = λ e. absurd (plain.no_constructor e); no_initialiser = plain.no_initialiser };
    descriptor = spells;
  }

  counted : Resolves consts (instr.InvokeInterface index count) call ↔ (count ≡ units_of_params types + 1)
  counted = (
    λ r. of_allowed r.allowed,
    λ e. record { allowed = (member, here, (types, calls, e)); becomes = (member, here, (types, calls, refl)) },
  ) where
    of_content : AllowsCounted count member → count ≡ units_of_params types + 1
    of_content (other, is, e) = e ∙ ap (λ (t : MethodTypes). units_of_params t + 1) (one_method text other types is.descriptor spells)

    of_allowed : Names consts index (AllowsCounted count) → count ≡ units_of_params types + 1
    of_allowed (c, there, a) = of_content (at_content (AllowsCounted count) (content_at consts index) member c here there a)

  called : (o : Operation) → Resolves consts (instr.InvokeInterface index count) o → o ≡ call
  called o r = of_named r.becomes where
    of_content : CallOperation Interface o member → o ≡ call
    of_content (other, is, e) = e ∙ ap (λ (t : MethodTypes). Do (Act (Invoke Interface member t))) (one_method text other types is.descriptor spells)

    of_named : Names consts index (CallOperation Interface o) → o ≡ call
    of_named (c, there, b) = of_content (at_content (CallOperation Interface o) (content_at consts index) member c here there b)

  pub interface_is : (o : Operation) → Resolves consts (instr.InvokeInterface index count) o ↔ ((count ≡ units_of_params types + 1) × (o ≡ call))
  interface_is o = (
    λ r.
        let same = called o r in
        (counted.0 (subst (Resolves consts (instr.InvokeInterface index count)) same r), same),
    λ both. subst (Resolves consts (instr.InvokeInterface index count)) (sym both.1) (counted.1 both.0),
  )

special_alone : (opcode : ℕ) → opcode ≢ 183 → beside sorts opcode ≡ Some Special → ⊥
unfolding sorts
special_alone opcode apart e = by_tests (eqb 182 opcode) (eqb 183 opcode) (eqb 184 opcode) refl e where
  by_tests : (a b c : Bool) → eqb 183 opcode ≡ b → option_map (λ (row : ℕ × Sort). row.1) (cond a (Some (182, Virtual)) (cond b (Some (183, Special)) (cond c (Some (184, Static)) None))) ≡ Some Special → ⊥
  by_tests true b c is f = cc
  by_tests false true c is f = apart (sym (eqb-true 183 opcode is))
  by_tests false false true is f = cc
  by_tests false false false is f = cc

pub no_constructor : (consts : List Place) (opcode index : ℕ) (tag : MemberTag) (class text : List ℕ) (o : Operation) → opcode ≢ 183 → content_at consts index ≡ Some (content.Member tag class (codes "<init>") text) → Resolves consts (instr.Invoke opcode index) o → ⊥
no_constructor consts opcode index tag class text o apart here r = of_allowed r.allowed where
  of_content : (sort : Sort) → beside sorts opcode ≡ Some sort → AllowsCall sort (content.Member tag class (codes "<init>") text) → ⊥
  of_content sort is (types, calls) =
      special_alone opcode apart (is ∙ ap Some (calls.called.constructor refl).0)

  of_allowed : IsAllowed consts (instr.Invoke opcode index) → ⊥
  of_allowed (sort, is, (c, there, a)) = of_content sort is (at_content (AllowsCall sort) (content_at consts index) (content.Member tag class (codes "<init>") text) c here there a)

-- ---- classes

pub array_is : (consts : List Place) (index : ℕ) (name : List ℕ) (o : Operation) → content_at consts index ≡ Some (content.Class name) → IsClassName name → length name + 3 ≤ 65535 → Resolves consts (instr.ANewArray index) o ↔ (o ≡ Do (Act (NewArray (Array (Object name)) 1)))
array_is consts index name o here named short =
    let sized : length (name ++ 59 ∷ []) ≡ length name + 1 = length-append name (59 ∷ []) in
    let made : IsMadeOf name (Object name) = record { names = (named, refl); within = omega arith; short = omega (arith, sized, short) } in
    is_it consts (instr.ANewArray index) (Do (Act (NewArray (Array (Object name)) 1))) o (record { allowed = (content.Class name, here, (Object name, made)); becomes = (content.Class name, here, (Object name, (named, refl), refl)) })

module _ (consts : List Place) (index count : ℕ) (text : List ℕ) (component : FieldType) (here : content_at consts index ≡ Some (content.Class text)) (spells : SpellsField text (Array component)) where
  abbrev make : Operation
  make = Do (Act (NewArray (Array component) count))

  dimensioned : Resolves consts (instr.MultiNew index count) make ↔ HasDimensions count text (Array component)
  dimensioned = (
    λ r. of_allowed r.allowed,
    λ has. record { allowed = (content.Class text, here, (Array component, has)); becomes = (content.Class text, here, (Array component, spells, refl)) },
  ) where
    of_content : IsClass (λ t. (type : FieldType) × HasDimensions count t type) (content.Class text) → HasDimensions count text (Array component)
    of_content (type, has) = subst (HasDimensions count text) (one_class text type (Array component) has.names spells) has

    of_allowed : Names consts index (IsClass (λ t. (type : FieldType) × HasDimensions count t type)) → HasDimensions count text (Array component)
    of_allowed (c, there, a) = of_content (at_content (IsClass (λ t. (type : FieldType) × HasDimensions count t type)) (content_at consts index) (content.Class text) c here there a)

  made_is : (o : Operation) → Resolves consts (instr.MultiNew index count) o → o ≡ make
  made_is o r = of_named r.becomes where
    of_content : OfType (λ type. NewArray type count) o (content.Class text) → o ≡ make
    of_content (type, names, e) = e ∙ ap (λ (t : FieldType). Do (Act (NewArray t count))) (one_class text type (Array component) names spells)

    of_named : Names consts index (OfType (λ type. NewArray type count) o) → o ≡ make
    of_named (c, there, b) = of_content (at_content (OfType (λ type. NewArray type count) o) (content_at consts index) (content.Class text) c here there b)

  pub arrays_are : (o : Operation) → Resolves consts (instr.MultiNew index count) o ↔ ((1 ≤ count) × (count ≤ dimensions (Array component)) × (o ≡ make))
  arrays_are o = (
    λ r.
        let same = made_is o r in
        let has = dimensioned.0 (subst (Resolves consts (instr.MultiNew index count)) same r) in
        (has.some, has.within, same),
    λ all. subst (Resolves consts (instr.MultiNew index count)) (sym all.2) (dimensioned.1 (record { names = spells; some = all.0; within = all.1 })),
  )

-- ---- switches

pub keys_are : (consts : List Place) (a b c fallback : ℕ) (o : Operation) → Resolves consts (instr.TableSwitch (negsuc 0) (a ∷ b ∷ c ∷ []) fallback) o ↔ (o ≡ Switch ((negsuc 0, a) ∷ (pos 0, b) ∷ (pos 1, c) ∷ []) fallback)
keys_are consts a b c fallback o =
    let keys : AreKeys (negsuc 0) 3 = record { some = omega arith; last = (pos 1, search rules, refl) } in
    is_it consts (instr.TableSwitch (negsuc 0) (a ∷ b ∷ c ∷ []) fallback) (Switch ((negsuc 0, a) ∷ (pos 0, b) ∷ (pos 1, c) ∷ []) fallback) o (record { allowed = keys; becomes = refl })
