-- The operations and handlers of decoded code.
use Rattle.std.proofs.Common.{◌≡◌, ℕ, suc, ◌<◌, ◌^◌, List, [], ◌∷◌, length, map, Option, Some, None, Bool, true, false, cond, ◌&&◌, option_map, refl, sym, ap, subst, ◌∙◌, arith}
use Rattle.std.specs.Prelude.{ℤ, pos, negsuc, ◌+ℤ◌, FitsSigned, IsTrue, nat_eq}
use Rattle.std.specs.Int.{w16, w32, w64, int_wrap}
use Rattle.std.specs.List.{AllByRecursion, AllZip, find}
use Rattle.std.proofs.lemmas.Bool.{lt-ltb}
use Rattle.je_consts.specs.declared.place.Place.{Place}
use Rattle.je_consts.specs.Pool.{IsPool}
use Rattle.je_desc.specs.FieldType.{FieldType, Base, Object, Array}
use Rattle.je_machine.specs.Content.{Content, Integer, Float, LongInteger, Double, Class, Str, MethodHandle, MethodType}
use Rattle.je_machine.specs.Action.{Field, Sort, Interface, Dynamic, Action, Invoke, New, NewArray, CheckCast, InstanceOf}
use Rattle.je_machine.specs.Operation.{Push, Act, Operation, Do, Increment, Branch, Handler, Program}
use Rattle.je_machine.specs.Value.{Value, Int, Long, Flt, Dbl, Const}
use Rattle.je_machine.proofs.KindLemmas.{by_fits}
use Rattle.je_instr.specs.declared.instr.Case.{Case}
use Rattle.je_instr.specs.declared.instr.Instr.{Instr}
use Rattle.je_instr.specs.declared.instr.Instr.TheVariants as instr
use Rattle.je_instr.specs.declared.program.Handler as entries
use Rattle.je_instr.specs.declared.program.RawHandler.{RawHandler}
use Rattle.je_instr.specs.declared.program.Decoded.{Decoded}
use Rattle.je_instr.specs.declared.program.Program as decoded
use Rattle.je_instr.specs.Allowed.{IsClass, HasDimensions, IsAllowed}
use Rattle.je_instr.specs.Assembling.{IsWithinProgram, IsProgram}
use Rattle.je_instr.specs.CodeProgram.{HasTargets, IsHandlerOf, CodeProgram}
use Rattle.je_instr.specs.Content.{Names}
use Rattle.je_instr.specs.Decoding.{Decodes}
use Rattle.je_instr.specs.Opcodes.{beside, simple_operations, local_operations, conditions, field_actions, array_types}
use Rattle.je_instr.specs.Resolves.{loaded, loaded2, pushed, FieldOperation, CallOperation, OfClass, OfType, table_cases, lookup_cases, Becomes, Resolves}
use Rattle.je_instr.proofs.OperationLemmas.{one_class}
use Rattle.je_shape.specs.Least.{targets_of}
use Rattle.je_fit.specs.Sound.{is_array, is_well_formed, IsWellFormed}
use Rattle.je_keep.specs.MethodCode.{StaysWithin}
use Rattle.je_keep.proofs.ConstLemmas.{ContentFits, content_fits}

-- It is well formed where the constants are those of a pool, and each target is one of so many instructions.
pub record IsFormed (consts : List Place) (count : ℕ) (o : Operation) : Type 0 where
  pub formed : IsPool consts → IsTrue (is_well_formed o)
  pub within : StaysWithin count o

-- ---- tables

abbrev no_target : List ℕ → Bool
no_target [] = true
no_target (to ∷ targets) = false

-- well formed, and no jump
abbrev is_plain : Operation → Bool
is_plain o = is_well_formed o && no_target (targets_of o)

abbrev each_row : {A : Type 0} → (A → Bool) → List (ℕ × A) → Bool
each_row P [] = true
each_row P (row ∷ table) = P row.1 && each_row P table

both : (a b : Bool) → (a && b) ≡ true → (a ≡ true) × (b ≡ true)
both true b e = (refl, e)
both false b e = absurd cc

found_row : {A : Type 0} (P : A → Bool) (t : Bool) (row : ℕ × A) (tail : Option (ℕ × A)) (a : A) → P row.1 ≡ true → (option_map (λ (r : ℕ × A). r.1) tail ≡ Some a → P a ≡ true)
    → option_map (λ (r : ℕ × A). r.1) (cond t (Some row) tail) ≡ Some a → P a ≡ true
found_row P true row tail a here rest e = let same : row.1 ≡ a = cc in subst (λ x. P x ≡ true) same here
found_row P false row tail a here rest e = rest e

-- what stands beside a number is of a row
row_of : {A : Type 0} (P : A → Bool) (table : List (ℕ × A)) (n : ℕ) (a : A) → each_row P table ≡ true → beside table n ≡ Some a → P a ≡ true
row_of P [] n a all e = absurd cc
row_of {A = A} P (row ∷ table) n a all e =
    let two = both (P row.1) (each_row P table) all in
    found_row P (nat_eq row.0 n) row (find (λ (r : ℕ × A). nat_eq r.0 n) table) a two.0 (row_of P table n a two.1) e

mapped : {A B : Type 0} (make : A → B) (Q : B → Type 0) (m : Option A) (b : B) → ((a : A) → m ≡ Some a → Q (make a)) → option_map make m ≡ Some b → Q b
mapped make Q None b each e = absurd cc
mapped make Q (Some a) b each e = let same : make a ≡ b = cc in subst Q same (each a refl)

simple_plain : each_row is_plain simple_operations ≡ true
unfolding simple_operations int_wrap
simple_plain = refl

local_plain : (slot : ℕ) → each_row (λ (make : ℕ → Operation). is_plain (make slot)) local_operations ≡ true
unfolding local_operations
local_plain slot = refl

field_plain : (f : Field) → each_row (λ (make : Field → Action). is_plain (Do (Act (make f)))) field_actions ≡ true
unfolding field_actions
field_plain f = refl

-- ---- constants

wider : (n : ℤ) → FitsSigned w16 n → FitsSigned w32 n
wider (pos n) f = record { sfits = omega (arith, f.sfits) }
wider (negsuc n) f = record { sfits = omega (arith, f.sfits) }

abbrev PushFits : Value → Type 0
PushFits v = IsTrue (is_well_formed (Do (Push v)))

loaded_fits : (c : Content) (v : Value) → ContentFits c → loaded c ≡ Some v → PushFits v
loaded_fits (Integer n) v f e = let same : Int n ≡ v = cc in subst PushFits same (by_fits w32 n f)
loaded_fits (Float bits) v f e = let same : Flt bits ≡ v = cc in subst PushFits same (lt-ltb bits (2 ^ 32) f)
loaded_fits (Class text) v f e = let same : Const (Class text) ≡ v = cc in subst PushFits same refl
loaded_fits (Str text) v f e = let same : Const (Str text) ≡ v = cc in subst PushFits same refl
loaded_fits (MethodHandle kind tag class name text) v f e = let same : Const (MethodHandle kind tag class name text) ≡ v = cc in subst PushFits same refl
loaded_fits (MethodType text) v f e = let same : Const (MethodType text) ≡ v = cc in subst PushFits same refl
loaded_fits _ v f e = absurd cc

loaded2_fits : (c : Content) (v : Value) → ContentFits c → loaded2 c ≡ Some v → PushFits v
loaded2_fits (LongInteger n) v f e = let same : Long n ≡ v = cc in subst PushFits same (by_fits w64 n f)
loaded2_fits (Double bits) v f e = let same : Dbl bits ≡ v = cc in subst PushFits same (lt-ltb bits (2 ^ 64) f)
loaded2_fits _ v f e = absurd cc

-- ---- arrays

is_made : (k : ℕ) (text : List ℕ) (type : FieldType) → HasDimensions k text type → IsTrue (is_array type)
is_made k text (Base base) h = let some = h.some in let within = h.within in absurd (omega (arith, some, within))
is_made k text (Object name) h = let some = h.some in let within = h.within in absurd (omega (arith, some, within))
is_made k text (Array component) h = refl

-- ---- each instruction

module _ (consts : List Place) (count : ℕ) where
  abbrev Formed : Operation → Type 0
  Formed o = IsFormed consts count o

  none_within : (targets : List ℕ) → no_target targets ≡ true → AllByRecursion (λ to. to < count) targets
  none_within [] e = tt
  none_within (to ∷ targets) e = absurd cc

  plain : (o : Operation) → is_plain o ≡ true → Formed o
  plain o e =
      let two = both (is_well_formed o) (no_target (targets_of o)) e in
      record { formed = λ pool. two.0; within = none_within (targets_of o) two.1 }

  acts : (o : Operation) (a : Action) → is_plain (Do (Act a)) ≡ true → o ≡ Do (Act a) → Formed o
  acts o a e is = subst Formed (sym is) (plain (Do (Act a)) e)

  call_formed : (sort : Sort) (o : Operation) (c : Content) → CallOperation sort o c → Formed o
  call_formed sort o c (types, calls, is) = acts o (Invoke sort c types) refl is

  field_formed : (opcode : ℕ) (o : Operation) (c : Content) → FieldOperation opcode o c → Formed o
  field_formed opcode o c (f, is, e) =
      mapped (λ (make : Field → Action). Do (Act (make f))) Formed (beside field_actions opcode) o
      (λ make there. plain (Do (Act (make f))) (row_of (λ (m : Field → Action). is_plain (Do (Act (m f)))) field_actions opcode make (field_plain f) there)) e

  class_formed : (make : List ℕ → Action) (o : Operation) (c : Content) → ((text : List ℕ) → is_plain (Do (Act (make text))) ≡ true) → OfClass make o c → Formed o
  class_formed make o (Class text) each h = acts o (make text) (each text) h
  class_formed make o _ each h = absurd h

  array_formed : (o : Operation) (c : Content) → OfType (λ type. NewArray (Array type) 1) o c → Formed o
  array_formed o (Class text) (type, names, is) = acts o (NewArray (Array type) 1) refl is
  array_formed o _ h = absurd h

  arrays_formed : (k : ℕ) (o : Operation) (c : Content) → IsClass (λ text. (type : FieldType) × HasDimensions k text type) c → OfType (λ type. NewArray type k) o c → Formed o
  arrays_formed k o (Class text) (other, has) (type, names, is) =
      let made : IsTrue (is_array type) = subst (λ t. IsTrue (is_array t)) (one_class text other type has.names names) (is_made k text other has) in
      subst Formed (sym is) (record { formed = λ pool. made; within = tt })
  arrays_formed k o _ a h = absurd a

  -- the contents that two look-ups found are one
  same_content : (k : ℕ) (o : Operation) (P : Content → Type 0) (index : ℕ) → ((c : Content) → P c → OfType (λ type. NewArray type k) o c → Formed o)
      → Names consts index P → Names consts index (OfType (λ type. NewArray type k) o) → Formed o
  same_content k o P index each (d, here, a) (c, there, b) =
      let one : Some d ≡ Some c = sym here ∙ there in
      let same : d ≡ c = cc in
      each c (subst P same a) b

  pushed_formed : (index : ℕ) (o : Operation) (load : Content → Option Value) → ((c : Content) (v : Value) → ContentFits c → load c ≡ Some v → PushFits v)
      → Names consts index (λ c. pushed (load c) ≡ Some o) → Formed o
  pushed_formed index o load each (c, there, e) =
      mapped (λ v. Do (Push v)) Formed (load c) o
      (λ v is. record { formed = λ pool. each c v (content_fits consts index c pool there) is; within = tt }) e

  table_within : (low : ℤ) (targets : List ℕ) → AllByRecursion (λ to. to < count) targets → AllByRecursion (λ to. to < count) (map (λ (c : ℤ × ℕ). c.1) (table_cases low targets))
  table_within low [] h = tt
  table_within low (to ∷ targets) h = (h.0, table_within (low +ℤ pos 1) targets h.1)

  lookup_within : (cases : List Case) → AllByRecursion (λ (c : Case). c.target < count) cases → AllByRecursion (λ to. to < count) (map (λ (c : ℤ × ℕ). c.1) (lookup_cases cases))
  lookup_within [] h = tt
  lookup_within (c ∷ cases) h = (h.0, lookup_within cases h.1)

  becomes_formed : (i : Instr) (o : Operation) → HasTargets count i → IsAllowed consts i → Becomes consts i o → Formed o
  becomes_formed (instr.Simple opcode) o t a b = plain o (row_of is_plain simple_operations opcode o simple_plain b)
  becomes_formed (instr.IntPush n) o t a b = subst Formed (sym b) (record { formed = λ pool. by_fits w32 n (wider n a); within = tt })
  becomes_formed (instr.Ldc index) o t a b = pushed_formed index o loaded loaded_fits b
  becomes_formed (instr.Ldc2 index) o t a b = pushed_formed index o loaded2 loaded2_fits b
  becomes_formed (instr.Local opcode slot) o t a b =
      mapped (λ (make : ℕ → Operation). make slot) Formed (beside local_operations opcode) o
      (λ make there. plain (make slot) (row_of (λ (m : ℕ → Operation). is_plain (m slot)) local_operations opcode make (local_plain slot) there)) b
  becomes_formed (instr.Iinc slot by) o t a b = subst Formed (sym b) (plain (Increment slot by) refl)
  becomes_formed (instr.Branch opcode target) o t a b =
      mapped (λ condition. Branch condition target) Formed (beside conditions opcode) o (λ condition there. record { formed = λ pool. refl; within = (t, tt) }) b
  becomes_formed (instr.Goto target) o t a b = subst Formed (sym b) (record { formed = λ pool. refl; within = (t, tt) })
  becomes_formed (instr.TableSwitch low targets fallback) o t a b = subst Formed (sym b) (record { formed = λ pool. refl; within = (t.1, table_within low targets t.0) })
  becomes_formed (instr.LookupSwitch cases fallback) o t a b = subst Formed (sym b) (record { formed = λ pool. refl; within = (t.1, lookup_within cases t.0) })
  becomes_formed (instr.Field opcode index) o t a (c, there, h) = field_formed opcode o c h
  becomes_formed (instr.Invoke opcode index) o t a (sort, is, (c, there, h)) = call_formed sort o c h
  becomes_formed (instr.InvokeInterface index size) o t a (c, there, h) = call_formed Interface o c h
  becomes_formed (instr.InvokeDynamic index) o t a (c, there, h) = call_formed Dynamic o c h
  becomes_formed (instr.New index) o t a (c, there, h) = class_formed New o c (λ text. refl) h
  becomes_formed (instr.NewArray code) o t a b =
      mapped (λ base. Do (Act (NewArray (Array (Base base)) 1))) Formed (beside array_types code) o (λ base there. plain (Do (Act (NewArray (Array (Base base)) 1))) refl) b
  becomes_formed (instr.ANewArray index) o t a (c, there, h) = array_formed o c h
  becomes_formed (instr.CheckCast index) o t a (c, there, h) = class_formed CheckCast o c (λ text. refl) h
  becomes_formed (instr.InstanceOf index) o t a (c, there, h) = class_formed InstanceOf o c (λ text. refl) h
  becomes_formed (instr.MultiNew index k) o t a b = same_content k o (IsClass (λ text. (type : FieldType) × HasDimensions k text type)) index (arrays_formed k o) a b

  all_formed : (is : List Instr) (os : List Operation) → AllByRecursion (HasTargets count) is → AllZip (Resolves consts) is os → AllByRecursion (IsFormed consts count) os
  all_formed [] [] t h = tt
  all_formed (i ∷ is) (o ∷ os) t h = (becomes_formed i o t.0 h.0.allowed h.0.becomes, all_formed is os t.1 h.1)
  all_formed [] (o ∷ os) t h = absurd h
  all_formed (i ∷ is) [] t h = absurd h

  all_within : (es : List entries.Handler) (hs : List Handler) → AllByRecursion (IsWithinProgram count) es → AllZip (IsHandlerOf consts) es hs → AllByRecursion (λ (h : Handler). h.target < count) hs
  all_within [] [] t h = tt
  all_within (e ∷ es) (h ∷ hs) t z = (subst (λ n. n < count) (sym z.0.target) t.0.target, all_within es hs t.1 z.1)
  all_within [] (h ∷ hs) t z = absurd z
  all_within (e ∷ es) [] t z = absurd z

-- ---- the whole

pub zip_long : {A B : Type 0} (R : A → B → Type 0) (xs : List A) (ys : List B) → AllZip R xs ys → length xs ≡ length ys
zip_long R [] [] h = refl
zip_long R (x ∷ xs) (y ∷ ys) h = ap suc (zip_long R xs ys h.1)
zip_long R [] (y ∷ ys) h = absurd h
zip_long R (x ∷ xs) [] h = absurd h

of_all : {A : Type 0} (P Q : A → Type 0) (xs : List A) → ((x : A) → P x → Q x) → AllByRecursion P xs → AllByRecursion Q xs
of_all P Q [] f h = tt
of_all P Q (x ∷ xs) f h = (f x h.0, of_all P Q xs f h.1)

module _ (consts : List Place) (code : decoded.Program) (p : Program) (program : IsProgram code) (operations : AllZip (Resolves consts) code.instrs p.operations) where
  many : length code.instrs ≡ length p.operations
  many = zip_long (Resolves consts) code.instrs p.operations operations

  operations_formed : AllByRecursion (IsFormed consts (length p.operations)) p.operations
  operations_formed =
      let targets = subst (λ (n : ℕ). AllByRecursion (HasTargets n) code.instrs) many program.targets in
      all_formed consts (length p.operations) code.instrs p.operations targets operations

  pub resolved_formed : IsPool consts → AllZip (IsHandlerOf consts) code.handlers p.handlers → IsWellFormed p
  resolved_formed pool handlers =
      let within = subst (λ (n : ℕ). AllByRecursion (IsWithinProgram n) code.handlers) many program.handlers in
      record {
        operands = of_all (IsFormed consts (length p.operations)) (λ o. IsTrue (is_well_formed o)) p.operations (λ o f. f.formed pool) operations_formed;
        handlers = all_within consts (length p.operations) code.handlers p.handlers within handlers;
      }

  pub resolved_within : AllByRecursion (StaysWithin (length p.operations)) p.operations
  resolved_within = of_all (IsFormed consts (length p.operations)) (StaysWithin (length p.operations)) p.operations (λ o f. f.within) operations_formed

module _ (again : (consts : List Place) (code : List ℕ) (table : List RawHandler) (d : Decoded) → Decodes consts code table d → IsProgram d.program)
    (consts : List Place) (is_static : Bool) (text code : List ℕ) (table : List RawHandler) (p : Program) where
  pub program_formed : IsPool consts → CodeProgram consts is_static text code table p → IsWellFormed p
  program_formed pool h = resolved_formed consts h.decoded.program p (again consts code table h.decoded h.decodes) h.resolved pool h.handlers

  pub program_within : CodeProgram consts is_static text code table p → AllByRecursion (StaysWithin (length p.operations)) p.operations
  program_within h = resolved_within consts h.decoded.program p (again consts code table h.decoded h.decodes) h.resolved
