-- Each instruction of allowed operands is one operation.
use Rattle.std.proofs.Common.{◌≡◌, ℕ, List, [], ◌∷◌, Option, Some, None, refl, sym, ap, subst, ◌∙◌}
use Rattle.std.proofs.Common.{arith}
use Rattle.std.specs.Prelude.{IsSome, option_map}
use Rattle.std.specs.List.{AllByRecursion, AllZip}
use Rattle.je_consts.specs.declared.place.Place.{Place}
use Rattle.je_desc.specs.FieldType.{FieldType, Base, Object, Array, descriptor}
use Rattle.je_desc.specs.Descriptor.{MethodTypes, SpellsMethod}
use Rattle.je_desc.specs.Names.{IsClassName}
use Rattle.je_machine.specs.Content.{Content, Integer, Float, LongInteger, Double, Class, Str}
use Rattle.je_machine.specs.Content.{Member, MethodHandle, MethodType, InvokeDynamic}
use Rattle.je_consts.specs.declared.constant.MemberTag.TheVariants as tags
use Rattle.je_machine.specs.Action.{Field, Action, Sort, Interface, Dynamic, Invoke, New, NewArray}
use Rattle.je_machine.specs.Action.{CheckCast, InstanceOf}
use Rattle.je_machine.specs.Operation.{Operation, Act, Do, Branch}
use Rattle.je_instr.specs.declared.instr.Instr.{Instr}
use Rattle.je_instr.specs.declared.instr.Instr.TheVariants as instr
use Rattle.je_instr.specs.Content.{content_at, Names}
use Rattle.je_instr.specs.Opcodes.{beside, simple_operation, local_operations, conditions}
use Rattle.je_instr.specs.Opcodes.{field_actions, sorts, array_types}
use Rattle.je_instr.specs.Allowed.{NamesType, IsClassText, IsClass, IsMadeOf, HasDimensions, Calls}
use Rattle.je_instr.specs.Allowed.{AllowsField, AllowsCall, AllowsCounted, AllowsLdc, AllowsLdc2}
use Rattle.je_instr.specs.Allowed.{IsAllowed}
use Rattle.je_instr.specs.Resolves.{loaded, loaded2, pushed, IsFieldOf, FieldOperation}
use Rattle.je_instr.specs.Resolves.{CallOperation, OfClass, OfType, Becomes, Resolves}
use Rattle.je_instr.proofs.DescriptorLemmas.{one_type, one_method}

pub some_is : {A : Type 0} (x y : A) → Some x ≡ Some y → x ≡ y
some_is x y e = cc

-- ---- at most one

-- both were found beside the same number
once : {A : Type 0} (o : Option A) (a b : A) → o ≡ Some a → o ≡ Some b → a ≡ b
once o a b ea eb = some_is a b (sym ea ∙ eb)

names_once : (consts : List Place) (index : ℕ) (P Q : Content → Type 0) (X : Type 0) → ((c : Content) → P c → Q c → X) → Names consts index P → Names consts index Q → X
names_once consts index P Q X each (c, here, p) (d, there, q) =
    each d (subst P (once (content_at consts index) c d here there) p) q

abbrev field_made : List ℕ → List ℕ → FieldType → Field
field_made class name type = record { class = class; name = name; type = type }

same_field : (f g : Field) → f.class ≡ g.class → f.name ≡ g.name → f.type ≡ g.type → f ≡ g
same_field f g class name type =
    ap (λ (x : List ℕ). field_made x f.name f.type) class ∙ ap (λ (x : List ℕ). field_made g.class x f.type) name ∙ ap (λ (x : FieldType). field_made g.class g.name x) type

one_field : (c : Content) (f g : Field) → IsFieldOf f c → IsFieldOf g c → f ≡ g
one_field (Member tags.Field class name text) f g hf hg =
    same_field f g (hf.0 ∙ sym hg.0) (hf.1 ∙ sym hg.1) (one_type text f.type g.type hf.2 hg.2)
one_field _ f g hf hg = absurd hf

field_once : (opcode : ℕ) (a b : Operation) (c : Content) → FieldOperation opcode a c → FieldOperation opcode b c → a ≡ b
field_once opcode a b c (f, is, ea) (g, is', eb) =
    once (option_map (λ make. Do (Act (make g))) (beside field_actions opcode)) a b
    (subst (λ (h : Field). option_map (λ make. Do (Act (make h))) (beside field_actions opcode) ≡ Some a) (one_field c f g is is') ea) eb

-- the descriptor in a content
abbrev text_of : Content → List ℕ
text_of (Member tag class name text) = text
text_of (InvokeDynamic bootstrap name text) = text
text_of _ = []

calls_spells : (sort : Sort) (types : MethodTypes) (c : Content) → Calls sort types c → SpellsMethod (text_of c) types
calls_spells sort types (Member tag class name text) h = h.descriptor
calls_spells Dynamic types (InvokeDynamic bootstrap name text) h = h.descriptor
calls_spells sort types _ h = absurd h

call_once : (sort : Sort) (a b : Operation) (c : Content) → CallOperation sort a c → CallOperation sort b c → a ≡ b
call_once sort a b c (types, is, ea) (types', is', eb) =
    let same = one_method (text_of c) types types' (calls_spells sort types c is) (calls_spells sort types' c is') in
    ea ∙ ap (λ (t : MethodTypes). Do (Act (Invoke sort c t))) same ∙ sym eb

class_once : (make : List ℕ → Action) (a b : Operation) (c : Content) → OfClass make a c → OfClass make b c → a ≡ b
class_once make a b (Class text) ha hb = ha ∙ sym hb
class_once make a b _ ha hb = absurd ha

-- no name of a class is the descriptor of an array
name_apart : (text : List ℕ) (name : List ℕ) (component : FieldType) → NamesType text (Object name) → NamesType text (Array component) → ⊥
name_apart text name component hn ha =
    let first : name ≡ 91 ∷ descriptor component = sym hn.1 ∙ ha.1 in
    grind (arith, hn.0.1 0 0, first)

pub one_class : (text : List ℕ) (t u : FieldType) → NamesType text t → NamesType text u → t ≡ u
one_class text (Base b) u ht hu = absurd ht
one_class text (Object m) (Base b) ht hu = absurd hu
one_class text (Object m) (Object n) ht hu = ap Object (sym ht.1 ∙ hu.1)
one_class text (Object m) (Array u) ht hu = absurd (name_apart text m u ht hu)
one_class text (Array t) (Base b) ht hu = absurd hu
one_class text (Array t) (Object n) ht hu = absurd (name_apart text n t hu ht)
one_class text (Array t) (Array u) ht hu = one_type text (Array t) (Array u) ht hu

type_once : (make : FieldType → Action) (a b : Operation) (c : Content) → OfType make a c → OfType make b c → a ≡ b
type_once make a b (Class text) ha hb =
    ha.2 ∙ ap (λ (t : FieldType). Do (Act (make t))) (one_class text ha.0 hb.0 ha.1 hb.1) ∙ sym hb.2
type_once make a b _ ha hb = absurd ha

becomes_once : (consts : List Place) (i : Instr) (a b : Operation) → Becomes consts i a → Becomes consts i b → a ≡ b
becomes_once consts (instr.Simple opcode) a b ha hb = once (simple_operation opcode) a b ha hb
becomes_once consts (instr.IntPush n) a b ha hb = ha ∙ sym hb
becomes_once consts (instr.Ldc index) a b ha hb =
    names_once consts index (λ c. pushed (loaded c) ≡ Some a) (λ c. pushed (loaded c) ≡ Some b) (a ≡ b) (λ c. once (pushed (loaded c)) a b) ha hb
becomes_once consts (instr.Ldc2 index) a b ha hb =
    names_once consts index (λ c. pushed (loaded2 c) ≡ Some a) (λ c. pushed (loaded2 c) ≡ Some b) (a ≡ b) (λ c. once (pushed (loaded2 c)) a b) ha hb
becomes_once consts (instr.Local opcode slot) a b ha hb = once (option_map (λ make. make slot) (beside local_operations opcode)) a b ha hb
becomes_once consts (instr.Iinc slot by) a b ha hb = ha ∙ sym hb
becomes_once consts (instr.Branch opcode target) a b ha hb =
    once (option_map (λ condition. Branch condition target) (beside conditions opcode)) a b ha hb
becomes_once consts (instr.Goto target) a b ha hb = ha ∙ sym hb
becomes_once consts (instr.TableSwitch low targets fallback) a b ha hb = ha ∙ sym hb
becomes_once consts (instr.LookupSwitch cases fallback) a b ha hb = ha ∙ sym hb
becomes_once consts (instr.Field opcode index) a b ha hb =
    names_once consts index (FieldOperation opcode a) (FieldOperation opcode b) (a ≡ b) (field_once opcode a b) ha hb
becomes_once consts (instr.Invoke opcode index) a b (s, es, ha) (t, et, hb) =
    names_once consts index (CallOperation t a) (CallOperation t b) (a ≡ b) (call_once t a b)
    (subst (λ (u : Sort). Names consts index (CallOperation u a)) (once (beside sorts opcode) s t es et) ha) hb
becomes_once consts (instr.InvokeInterface index count) a b ha hb =
    names_once consts index (CallOperation Interface a) (CallOperation Interface b) (a ≡ b) (call_once Interface a b) ha hb
becomes_once consts (instr.InvokeDynamic index) a b ha hb =
    names_once consts index (CallOperation Dynamic a) (CallOperation Dynamic b) (a ≡ b) (call_once Dynamic a b) ha hb
becomes_once consts (instr.New index) a b ha hb =
    names_once consts index (OfClass New a) (OfClass New b) (a ≡ b) (class_once New a b) ha hb
becomes_once consts (instr.NewArray code) a b ha hb =
    once (option_map (λ base. Do (Act (NewArray (Array (Base base)) 1))) (beside array_types code)) a b ha hb
becomes_once consts (instr.ANewArray index) a b ha hb =
    names_once consts index (OfType (λ type. NewArray (Array type) 1) a) (OfType (λ type. NewArray (Array type) 1) b) (a ≡ b) (type_once (λ type. NewArray (Array type) 1) a b) ha hb
becomes_once consts (instr.CheckCast index) a b ha hb =
    names_once consts index (OfClass CheckCast a) (OfClass CheckCast b) (a ≡ b) (class_once CheckCast a b) ha hb
becomes_once consts (instr.InstanceOf index) a b ha hb =
    names_once consts index (OfClass InstanceOf a) (OfClass InstanceOf b) (a ≡ b) (class_once InstanceOf a b) ha hb
becomes_once consts (instr.MultiNew index count) a b ha hb =
    names_once consts index (OfType (λ type. NewArray type count) a) (OfType (λ type. NewArray type count) b) (a ≡ b) (type_once (λ type. NewArray type count) a b) ha hb

pub resolves_once : (consts : List Place) (i : Instr) (a b : Operation) → Resolves consts i a → Resolves consts i b → a ≡ b
resolves_once consts i a b ha hb = becomes_once consts i a b ha.becomes hb.becomes

pub all_resolve_once : (consts : List Place) (is : List Instr) (a b : List Operation) → AllZip (Resolves consts) is a → AllZip (Resolves consts) is b → a ≡ b
all_resolve_once consts [] [] [] ra rb = refl
all_resolve_once consts [] [] (y ∷ b) ra rb = absurd rb
all_resolve_once consts [] (x ∷ a) b ra rb = absurd ra
all_resolve_once consts (i ∷ is) [] b ra rb = absurd ra
all_resolve_once consts (i ∷ is) (x ∷ a) [] ra rb = absurd rb
all_resolve_once consts (i ∷ is) (x ∷ a) (y ∷ b) ra rb =
    ap (λ (o : Operation). o ∷ a) (resolves_once consts i x y ra.0 rb.0) ∙ ap (λ (l : List Operation). y ∷ l) (all_resolve_once consts is a b ra.1 rb.1)

-- ---- at least one

found : {A B : Type 0} (f : A → B) (o : Option A) → IsSome o → (b : B) × (option_map f o ≡ Some b)
found f (Some a) there = (f a, refl)
found f None there = absurd cc

found_itself : {A : Type 0} (o : Option A) → IsSome o → (a : A) × (o ≡ Some a)
found_itself (Some a) there = (a, refl)
found_itself None there = absurd cc

-- what is made of the constant of each allowed content
made_of : (consts : List Place) (index : ℕ) (P : Content → Type 0) (Q : Operation → Content → Type 0) → ((c : Content) → P c → (o : Operation) × Q o c) → Names consts index P → (o : Operation) × Names consts index (Q o)
made_of consts index P Q each (c, here, p) = let made = each c p in (made.0, (c, here, made.1))

ldc_made : (c : Content) → AllowsLdc c → (o : Operation) × (pushed (loaded c) ≡ Some o)
ldc_made (Integer n) h = (_, refl)
ldc_made (Float bits) h = (_, refl)
ldc_made (Class text) h = (_, refl)
ldc_made (Str text) h = (_, refl)
ldc_made (MethodHandle kind tag class name text) h = (_, refl)
ldc_made (MethodType text) h = (_, refl)
ldc_made _ h = absurd h

ldc2_made : (c : Content) → AllowsLdc2 c → (o : Operation) × (pushed (loaded2 c) ≡ Some o)
ldc2_made (LongInteger n) h = (_, refl)
ldc2_made (Double bits) h = (_, refl)
ldc2_made _ h = absurd h

field_makes : (opcode : ℕ) → IsSome (beside field_actions opcode) → (c : Content) → AllowsField c → (o : Operation) × FieldOperation opcode o c
field_makes opcode there (Member tags.Field class name text) h =
    let f : Field = record { class = class; name = name; type = h.descriptor.0 } in
    let made = found (λ make. Do (Act (make f))) (beside field_actions opcode) there in
    (made.0, (f, (refl, refl, h.descriptor.1), made.1))
field_makes opcode there _ h = absurd h

call_made : (sort : Sort) (c : Content) → AllowsCall sort c → (o : Operation) × CallOperation sort o c
call_made sort c (types, is) = (Do (Act (Invoke sort c types)), (types, is, refl))

counted_made : (count : ℕ) (c : Content) → AllowsCounted count c → (o : Operation) × CallOperation Interface o c
counted_made count c (types, is, counted) = call_made Interface c (types, is)

class_made : (P : List ℕ → Type 0) (make : List ℕ → Action) (c : Content) → IsClass P c → (o : Operation) × OfClass make o c
class_made P make (Class text) h = (Do (Act (make text)), refl)
class_made P make _ h = absurd h

type_made : (P : List ℕ → FieldType → Type 0) → ((text : List ℕ) (type : FieldType) → P text type → NamesType text type) → (make : FieldType → Action) (c : Content) → IsClass (λ text. (type : FieldType) × P text type) c → (o : Operation) × OfType make o c
type_made P names make (Class text) h = (Do (Act (make h.0)), (h.0, names text h.0 h.1, refl))
type_made P names make _ h = absurd h

becomes_one : (consts : List Place) (i : Instr) → IsAllowed consts i → (o : Operation) × Becomes consts i o
becomes_one consts (instr.Simple opcode) h = found_itself (simple_operation opcode) h
becomes_one consts (instr.IntPush n) h = (_, refl)
becomes_one consts (instr.Ldc index) h = made_of consts index AllowsLdc (λ o c. pushed (loaded c) ≡ Some o) ldc_made h
becomes_one consts (instr.Ldc2 index) h = made_of consts index AllowsLdc2 (λ o c. pushed (loaded2 c) ≡ Some o) ldc2_made h
becomes_one consts (instr.Local opcode slot) h = found (λ make. make slot) (beside local_operations opcode) h
becomes_one consts (instr.Iinc slot by) h = (_, refl)
becomes_one consts (instr.Branch opcode target) h = found (λ condition. Branch condition target) (beside conditions opcode) h
becomes_one consts (instr.Goto target) h = (_, refl)
becomes_one consts (instr.TableSwitch low targets fallback) h = (_, refl)
becomes_one consts (instr.LookupSwitch cases fallback) h = (_, refl)
becomes_one consts (instr.Field opcode index) h = made_of consts index AllowsField (FieldOperation opcode) (field_makes opcode h.0) h.1
becomes_one consts (instr.Invoke opcode index) (sort, is, h) =
    let made = made_of consts index (AllowsCall sort) (CallOperation sort) (call_made sort) h in
    (made.0, (sort, is, made.1))
becomes_one consts (instr.InvokeInterface index count) h = made_of consts index (AllowsCounted count) (CallOperation Interface) (counted_made count) h
becomes_one consts (instr.InvokeDynamic index) h = made_of consts index (AllowsCall Dynamic) (CallOperation Dynamic) (call_made Dynamic) h
becomes_one consts (instr.New index) h = made_of consts index (IsClass IsClassName) (OfClass New) (class_made IsClassName New) h
becomes_one consts (instr.NewArray code) h = found (λ base. Do (Act (NewArray (Array (Base base)) 1))) (beside array_types code) h
becomes_one consts (instr.ANewArray index) h =
    made_of consts index (IsClass (λ text. (type : FieldType) × IsMadeOf text type)) (OfType (λ type. NewArray (Array type) 1)) (type_made IsMadeOf (λ text type is. is.names) (λ type. NewArray (Array type) 1)) h
becomes_one consts (instr.CheckCast index) h = made_of consts index (IsClass IsClassText) (OfClass CheckCast) (class_made IsClassText CheckCast) h
becomes_one consts (instr.InstanceOf index) h = made_of consts index (IsClass IsClassText) (OfClass InstanceOf) (class_made IsClassText InstanceOf) h
becomes_one consts (instr.MultiNew index count) h =
    made_of consts index (IsClass (λ text. (type : FieldType) × HasDimensions count text type)) (OfType (λ type. NewArray type count)) (type_made (HasDimensions count) (λ text type is. is.names) (λ type. NewArray type count)) h

pub resolves_one : (consts : List Place) (i : Instr) → IsAllowed consts i → (o : Operation) × Resolves consts i o
resolves_one consts i h = let one = becomes_one consts i h in (one.0, record { allowed = h; becomes = one.1 })

pub all_resolve : (consts : List Place) (is : List Instr) → AllByRecursion (IsAllowed consts) is → (a : List Operation) × AllZip (Resolves consts) is a
all_resolve consts [] h = ([], tt)
all_resolve consts (i ∷ is) h =
    let one = resolves_one consts i h.0 in
    let rest = all_resolve consts is h.1 in
    (one.0 ∷ rest.0, (one.1, rest.1))
