-- Instructions that are moved are their operations moved.
use Rattle.std.proofs.Common.{◌≡◌, ℕ, suc, ◌+◌, List, [], ◌∷◌, length, map, Option, Some, None, Bool, true, false, not, cond, ◌&&◌, nat_lt, nat_eq, option_map, refl, sym, ap, subst, ◌∙◌}
use Rattle.std.specs.Prelude.{ℤ, pos, ◌+ℤ◌}
use Rattle.std.specs.List.{find}
use Rattle.std.proofs.lemmas.Bool.{eqb-true}
use Rattle.je_consts.specs.declared.place.Place.{Place}
use Rattle.je_desc.specs.FieldType.{FieldType, BaseType, Base, Array}
use Rattle.je_machine.specs.Content.{Content, Class}
use Rattle.je_machine.specs.Condition.{Condition}
use Rattle.je_machine.specs.Action.{Field, Sort, Interface, Dynamic, Action, Invoke, New, NewArray, CheckCast, InstanceOf}
use Rattle.je_machine.specs.Operation.{Push, Act, Operation, Do, Load, Store, Increment, Branch, Goto, Switch, Return, Handler}
use Rattle.je_machine.specs.Value.{Value}
use Rattle.je_machine.specs.Moved.{retargeted}
use Rattle.je_machine.specs.IndexMap.{may_fall}
use Rattle.je_instr.specs.declared.instr.Case.{Case}
use Rattle.je_instr.specs.declared.instr.Instr.{Instr}
use Rattle.je_instr.specs.declared.instr.Instr.TheVariants as instr
use Rattle.je_instr.specs.declared.program.Handler as entries
use Rattle.je_instr.specs.Allowed.{AreKeys, AreRising}
use Rattle.je_instr.specs.CodeProgram.{IsHandlerOf}
use Rattle.je_instr.specs.Opcodes.{beside, simple_operations, simple_operation, local_operations, conditions, field_actions, array_types}
use Rattle.je_instr.specs.Resolves.{loaded, loaded2, pushed, FieldOperation, CallOperation, OfClass, OfType, table_cases, lookup_cases, Resolves}
use Rattle.je_splice.specs.InstrCodes.{redirected_case, redirected, leaves, leads_on, moved_entry_of, covers_some, instr_codes}
use Rattle.je_splice.specs.Layout.{moved_entry, has_range, operation_codes}
use Rattle.je_splice.proofs.AlikeLemmas.{AlikeCodes}

-- ---- tables

abbrev each_row : {A : Type 0} → (ℕ × A → Bool) → List (ℕ × A) → Bool
each_row P [] = true
each_row P (row ∷ table) = P row && each_row P table

both : (a b : Bool) → (a && b) ≡ true → (a ≡ true) × (b ≡ true)
both true b e = (refl, e)
both false b e = absurd cc

found_row : {A : Type 0} (P : ℕ × A → Bool) (t : Bool) (row : ℕ × A) (tail : Option (ℕ × A)) (n : ℕ) (a : A) → nat_eq row.0 n ≡ t → P row ≡ true
    → (option_map (λ (r : ℕ × A). r.1) tail ≡ Some a → P (n, a) ≡ true) → option_map (λ (r : ℕ × A). r.1) (cond t (Some row) tail) ≡ Some a → P (n, a) ≡ true
found_row {A = A} P true (m, b) tail n a key here rest e =
    let number : m ≡ n = eqb-true m n key in
    let same : b ≡ a = cc in
    subst (λ (k : ℕ). P (k, a) ≡ true) number (subst (λ (x : A). P (m, x) ≡ true) same here)
found_row P false row tail n a key here rest e = rest e

-- what stands beside a number is of a row
row_of : {A : Type 0} (P : ℕ × A → Bool) (table : List (ℕ × A)) (n : ℕ) (a : A) → each_row P table ≡ true → beside table n ≡ Some a → P (n, a) ≡ true
row_of P [] n a all e = absurd cc
row_of {A = A} P (row ∷ table) n a all e =
    let two = both (P row) (each_row P table) all in
    found_row P (nat_eq row.0 n) row (find (λ (r : ℕ × A). nat_eq r.0 n) table) n a refl two.0 (row_of P table n a two.1) e

mapped : {A B : Type 0} (make : A → B) (Q : B → Type 0) (m : Option A) (b : B) → ((a : A) → m ≡ Some a → Q (make a)) → option_map make m ≡ Some b → Q b
mapped make Q None b each e = absurd cc
mapped make Q (Some a) b each e = let same : make a ≡ b = cc in subst Q same (each a refl)

-- ---- operations without targets

abbrev is_plain : Operation → Bool
is_plain (Branch condition target) = false
is_plain (Goto target) = false
is_plain (Switch cases fallback) = false
is_plain o = true

plain_stays : (to : ℕ → ℕ) (o : Operation) → is_plain o ≡ true → retargeted to o ≡ o
plain_stays to (Do basic) e = refl
plain_stays to (Load kind slot) e = refl
plain_stays to (Store kind slot) e = refl
plain_stays to (Increment slot by) e = refl
plain_stays to (Branch condition target) e = absurd cc
plain_stays to (Goto target) e = absurd cc
plain_stays to (Switch cases fallback) e = absurd cc
plain_stays to (Return kind) e = refl

-- it has no target, and goes on to the next where this says so
pub record IsPlain (leads : Bool) (o : Operation) : Type 0 where
  pub plain : is_plain o ≡ true
  pub falls : may_fall o ≡ leads

acts : (action : Action) → IsPlain true (Do (Act action))
acts action = record { plain = refl; falls = refl }

pushes : (v : Value) → IsPlain true (Do (Push v))
pushes v = record { plain = refl; falls = refl }

same_test : Bool → Bool → Bool
same_test true b = b
same_test false b = not b

is_same : (a b : Bool) → same_test a b ≡ true → a ≡ b
unfolding same_test
is_same true true e = refl
is_same true false e = absurd cc
is_same false true e = absurd cc
is_same false false e = refl

abbrev simple_row : ℕ × Operation → Bool
simple_row row = is_plain row.1 && same_test (may_fall row.1) (not (leaves row.0))

simple_rows : each_row simple_row simple_operations ≡ true
unfolding simple_operations same_test
simple_rows = refl

simple_plain : (opcode : ℕ) (o : Operation) → simple_operation opcode ≡ Some o → IsPlain (not (leaves opcode)) o
simple_plain opcode o e =
    let row = row_of simple_row simple_operations opcode o simple_rows e in
    let two = both (is_plain o) (same_test (may_fall o) (not (leaves opcode))) row in
    record { plain = two.0; falls = is_same (may_fall o) (not (leaves opcode)) two.1 }

abbrev local_row : ℕ → ℕ × (ℕ → Operation) → Bool
local_row slot row = is_plain (row.1 slot) && may_fall (row.1 slot)

local_rows : (slot : ℕ) → each_row (local_row slot) local_operations ≡ true
unfolding local_operations
local_rows slot = refl

local_plain : (opcode slot : ℕ) (o : Operation) → option_map (λ (make : ℕ → Operation). make slot) (beside local_operations opcode) ≡ Some o → IsPlain true o
local_plain opcode slot o e =
    mapped (λ (make : ℕ → Operation). make slot) (IsPlain true) (beside local_operations opcode) o
    (λ make found.
    let row = row_of (local_row slot) local_operations opcode make (local_rows slot) found in
    let two = both (is_plain (make slot)) (may_fall (make slot)) row in
    record { plain = two.0; falls = two.1 }) e

pushed_plain : (v : Option Value) (o : Operation) → pushed v ≡ Some o → IsPlain true o
pushed_plain v o e = mapped (λ (x : Value). Do (Push x)) (IsPlain true) v o (λ x found. pushes x) e

is_act : (action : Action) (o : Operation) → o ≡ Do (Act action) → IsPlain true o
is_act action o e = subst (IsPlain true) (sym e) (acts action)

class_plain : (make : List ℕ → Action) (o : Operation) (c : Content) → OfClass make o c → IsPlain true o
class_plain make o (Class text) h = is_act (make text) o h
class_plain make o _ h = absurd h

type_plain : (make : FieldType → Action) (o : Operation) (c : Content) → OfType make o c → IsPlain true o
type_plain make o (Class text) (type, names, e) = is_act (make type) o e
type_plain make o _ h = absurd h

call_plain : (sort : Sort) (o : Operation) (c : Content) → CallOperation sort o c → IsPlain true o
call_plain sort o c (types, calls, e) = is_act (Invoke sort c types) o e

field_plain : (opcode : ℕ) (o : Operation) (c : Content) → FieldOperation opcode o c → IsPlain true o
field_plain opcode o c (f, is, e) =
    mapped (λ (make : Field → Action). Do (Act (make f))) (IsPlain true) (beside field_actions opcode) o (λ make found. acts (make f)) e

-- ---- switches

moved_table : (to : ℕ → ℕ) (key : ℤ) (targets : List ℕ) → table_cases key (map to targets) ≡ map (λ (c : ℤ × ℕ). (c.0, to c.1)) (table_cases key targets)
moved_table to key [] = refl
moved_table to key (target ∷ targets) = ap (λ (l : List (ℤ × ℕ)). (key, to target) ∷ l) (moved_table to (key +ℤ pos 1) targets)

moved_lookup : (to : ℕ → ℕ) (cases : List Case) → lookup_cases (map (redirected_case to) cases) ≡ map (λ (c : ℤ × ℕ). (c.0, to c.1)) (lookup_cases cases)
moved_lookup to [] = refl
moved_lookup to (c ∷ cases) = ap (λ (l : List (ℤ × ℕ)). (c.key, to c.target) ∷ l) (moved_lookup to cases)

rising_moved : (to : ℕ → ℕ) (cases : List Case) → AreRising cases → AreRising (map (redirected_case to) cases)
rising_moved to [] h = tt
rising_moved to (c ∷ []) h = tt
rising_moved to (c ∷ d ∷ cases) h = (h.0, rising_moved to (d ∷ cases) h.1)

as_many : (to : ℕ → ℕ) (targets : List ℕ) → length targets ≡ length (map to targets)
as_many to [] = refl
as_many to (target ∷ targets) = ap suc (as_many to targets)

-- ---- each instruction

moved_branch : (to : ℕ → ℕ) (target : ℕ) (o : Operation) (m : Option Condition) → option_map (λ (c : Condition). Branch c target) m ≡ Some o
    → option_map (λ (c : Condition). Branch c (to target)) m ≡ Some (retargeted to o)
moved_branch to target o None e = absurd cc
moved_branch to target o (Some c) e = let same : Branch c target ≡ o = cc in ap (λ (x : Operation). Some (retargeted to x)) same

falls_branch : (target : ℕ) (o : Operation) (m : Option Condition) → option_map (λ (c : Condition). Branch c target) m ≡ Some o → true ≡ may_fall o
falls_branch target o None e = absurd cc
falls_branch target o (Some c) e = let same : Branch c target ≡ o = cc in ap may_fall same

module _ (consts : List Place) where
  -- one without a target stays what it is
  stays : (to : ℕ → ℕ) (i : Instr) (o : Operation) (falls : Bool) → Resolves consts i o → IsPlain falls o → Resolves consts i (retargeted to o)
  stays to i o falls r p = subst (Resolves consts i) (sym (plain_stays to o p.plain)) r

  pub resolves_moved : (to : ℕ → ℕ) (i : Instr) (o : Operation) → Resolves consts i o → Resolves consts (redirected to i) (retargeted to o)
  resolves_moved to (instr.Simple opcode) o r = stays to (instr.Simple opcode) o (not (leaves opcode)) r (simple_plain opcode o r.becomes)
  resolves_moved to (instr.IntPush n) o r = subst (λ (x : Operation). Resolves consts (instr.IntPush n) (retargeted to x)) (sym r.becomes) (record { allowed = r.allowed; becomes = refl })
  resolves_moved to (instr.Ldc index) o r = let (c, here, e) = r.becomes in stays to (instr.Ldc index) o true r (pushed_plain (loaded c) o e)
  resolves_moved to (instr.Ldc2 index) o r = let (c, here, e) = r.becomes in stays to (instr.Ldc2 index) o true r (pushed_plain (loaded2 c) o e)
  resolves_moved to (instr.Local opcode slot) o r = stays to (instr.Local opcode slot) o true r (local_plain opcode slot o r.becomes)
  resolves_moved to (instr.Iinc slot by) o r = subst (λ (x : Operation). Resolves consts (instr.Iinc slot by) (retargeted to x)) (sym r.becomes) (record { allowed = r.allowed; becomes = refl })
  resolves_moved to (instr.Branch opcode target) o r = record { allowed = r.allowed; becomes = moved_branch to target o (beside conditions opcode) r.becomes }
  resolves_moved to (instr.Goto target) o r = record { allowed = tt; becomes = ap (retargeted to) r.becomes }
  resolves_moved to (instr.TableSwitch low targets fallback) o r = record {
    allowed = subst (λ (n : ℕ). AreKeys low n) (as_many to targets) r.allowed;
    becomes = ap (retargeted to) r.becomes ∙ ap (λ (cases : List (ℤ × ℕ)). Switch cases (to fallback)) (sym (moved_table to low targets));
  }
  resolves_moved to (instr.LookupSwitch cases fallback) o r = record {
    allowed = rising_moved to cases r.allowed;
    becomes = ap (retargeted to) r.becomes ∙ ap (λ (l : List (ℤ × ℕ)). Switch l (to fallback)) (sym (moved_lookup to cases));
  }
  resolves_moved to (instr.Field opcode index) o r = let (c, here, e) = r.becomes in stays to (instr.Field opcode index) o true r (field_plain opcode o c e)
  resolves_moved to (instr.Invoke opcode index) o r = let (sort, s, named) = r.becomes in let (c, here, e) = named in stays to (instr.Invoke opcode index) o true r (call_plain sort o c e)
  resolves_moved to (instr.InvokeInterface index count) o r = let (c, here, e) = r.becomes in stays to (instr.InvokeInterface index count) o true r (call_plain Interface o c e)
  resolves_moved to (instr.InvokeDynamic index) o r = let (c, here, e) = r.becomes in stays to (instr.InvokeDynamic index) o true r (call_plain Dynamic o c e)
  resolves_moved to (instr.New index) o r = let (c, here, e) = r.becomes in stays to (instr.New index) o true r (class_plain New o c e)
  resolves_moved to (instr.NewArray code) o r =
      stays to (instr.NewArray code) o true r
      (mapped (λ (base : BaseType). Do (Act (NewArray (Array (Base base)) 1))) (IsPlain true) (beside array_types code) o (λ base found. acts (NewArray (Array (Base base)) 1)) r.becomes)
  resolves_moved to (instr.ANewArray index) o r = let (c, here, e) = r.becomes in stays to (instr.ANewArray index) o true r (type_plain (λ (type : FieldType). NewArray (Array type) 1) o c e)
  resolves_moved to (instr.CheckCast index) o r = let (c, here, e) = r.becomes in stays to (instr.CheckCast index) o true r (class_plain CheckCast o c e)
  resolves_moved to (instr.InstanceOf index) o r = let (c, here, e) = r.becomes in stays to (instr.InstanceOf index) o true r (class_plain InstanceOf o c e)
  resolves_moved to (instr.MultiNew index count) o r = let (c, here, e) = r.becomes in stays to (instr.MultiNew index count) o true r (type_plain (λ (type : FieldType). NewArray type count) o c e)

  pub resolves_falls : (i : Instr) (o : Operation) → Resolves consts i o → leads_on i ≡ may_fall o
  resolves_falls (instr.Simple opcode) o r = sym (simple_plain opcode o r.becomes).falls
  resolves_falls (instr.IntPush n) o r = ap may_fall (sym r.becomes)
  resolves_falls (instr.Ldc index) o r = let (c, here, e) = r.becomes in sym (pushed_plain (loaded c) o e).falls
  resolves_falls (instr.Ldc2 index) o r = let (c, here, e) = r.becomes in sym (pushed_plain (loaded2 c) o e).falls
  resolves_falls (instr.Local opcode slot) o r = sym (local_plain opcode slot o r.becomes).falls
  resolves_falls (instr.Iinc slot by) o r = ap may_fall (sym r.becomes)
  resolves_falls (instr.Branch opcode target) o r = falls_branch target o (beside conditions opcode) r.becomes
  resolves_falls (instr.Goto target) o r = ap may_fall (sym r.becomes)
  resolves_falls (instr.TableSwitch low targets fallback) o r = ap may_fall (sym r.becomes)
  resolves_falls (instr.LookupSwitch cases fallback) o r = ap may_fall (sym r.becomes)
  resolves_falls (instr.Field opcode index) o r = let (c, here, e) = r.becomes in sym (field_plain opcode o c e).falls
  resolves_falls (instr.Invoke opcode index) o r = let (sort, s, named) = r.becomes in let (c, here, e) = named in sym (call_plain sort o c e).falls
  resolves_falls (instr.InvokeInterface index count) o r = let (c, here, e) = r.becomes in sym (call_plain Interface o c e).falls
  resolves_falls (instr.InvokeDynamic index) o r = let (c, here, e) = r.becomes in sym (call_plain Dynamic o c e).falls
  resolves_falls (instr.New index) o r = let (c, here, e) = r.becomes in sym (class_plain New o c e).falls
  resolves_falls (instr.NewArray code) o r =
      sym (mapped (λ (base : BaseType). Do (Act (NewArray (Array (Base base)) 1))) (IsPlain true) (beside array_types code) o (λ base found. acts (NewArray (Array (Base base)) 1)) r.becomes).falls
  resolves_falls (instr.ANewArray index) o r = let (c, here, e) = r.becomes in sym (type_plain (λ (type : FieldType). NewArray (Array type) 1) o c e).falls
  resolves_falls (instr.CheckCast index) o r = let (c, here, e) = r.becomes in sym (class_plain CheckCast o c e).falls
  resolves_falls (instr.InstanceOf index) o r = let (c, here, e) = r.becomes in sym (class_plain InstanceOf o c e).falls
  resolves_falls (instr.MultiNew index count) o r = let (c, here, e) = r.becomes in sym (type_plain (λ (type : FieldType). NewArray type count) o c e).falls

  -- ---- entries

  pub entry_moved : (start end target : ℕ → ℕ) (e : entries.Handler) (h : Handler) → IsHandlerOf consts e h → IsHandlerOf consts (moved_entry_of start end target e) (moved_entry start end target h)
  entry_moved start end target e h is = record {
    start = ap start is.start;
    end = ap end is.end;
    target = ap target is.target;
    catches = is.catches;
  }

  pub entry_ranges : (e : entries.Handler) (h : Handler) → IsHandlerOf consts e h → covers_some e ≡ has_range h
  entry_ranges e h is = ap (λ (n : ℕ). nat_lt n e.end) (sym is.start) ∙ ap (λ (n : ℕ). nat_lt h.start n) (sym is.end)

  pub codes_alike : AlikeCodes (Resolves consts) (IsHandlerOf consts) instr_codes operation_codes
  codes_alike = record {
    keep = resolves_moved;
    put = λ at size. resolves_moved (λ target. at + target);
    jump = λ place target. record { allowed = tt; becomes = refl };
    falls = resolves_falls;
    move = entry_moved;
    ranges = entry_ranges;
  }
