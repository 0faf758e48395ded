-- What is shown of a run.
use Rattle.std.specs.Prelude.{◌≡◌, ℕ, ◌<◌, List, ◌∷◌, ◌++◌, Option, Some, None, IsTrue}
use Rattle.std.specs.Prelude.{IsSomeAnd}
use Rattle.std.specs.List.{AllByRecursion, AllZip}
use Rattle.std.specs.FinMap.{get}
use Rattle.je_base.specs.Text.{IsModifiedUtf8}
use Rattle.je_consts.specs.declared.place.Place.{Place}
use Rattle.je_instr.specs.Content.{content_at}
use Rattle.je_machine.specs.Action.{Action, Sort, Virtual, Special, Static, Interface, Dynamic}
use Rattle.je_machine.specs.Action.{FloatOperation, Invoke, MonitorEnter, MonitorExit}
use Rattle.je_machine.specs.Classes.{class_of_object}
use Rattle.je_machine.specs.Content.{Content, Member, InvokeDynamic, is_same_loaded}
use Rattle.je_machine.specs.Heap.{Heap, Object}
use Rattle.je_machine.specs.Outside.{Event}
use Rattle.je_machine.specs.Step as machine
use Rattle.je_machine.specs.Value as values
use Rattle.je_probe.specs.declared.value.ProbeValue.{ProbeValue}
use Rattle.je_probe.specs.declared.value.ProbeValue.TheVariants as shown
use Rattle.je_probe.specs.declared.event.ProbeEvent.{ProbeEvent}
use Rattle.je_probe.specs.declared.heap.ProbeStatic.{ProbeStatic}
use Rattle.je_probe.specs.declared.outcome.ProbeEnd.{ProbeEnd}
use Rattle.je_probe.specs.declared.outcome.ProbeOutcome.{ProbeOutcome}
use Rattle.je_probe.specs.declared.outcome.ProbeOutcome.TheVariants as outcomes

-- ---- values

-- a constant says what was loaded
abbrev pub Says : Content → Option Content → Type 0
Says content (Some said) = IsTrue (is_same_loaded said content)
Says content None = ⊥

-- the first index of a constant that says it, and 0 where none of the pool does
pub record IsIndexOf (consts : List Place) (content : Content) (index : ℕ) : Type 0 where
  pub says : (index ≡ 0 → ⊥) → Says content (content_at consts index)
  pub first : (i : ℕ) → 0 < i → i < index → Says content (content_at consts i) → ⊥
  pub none : index ≡ 0 → (i : ℕ) → 0 < i → i < 65535 → Says content (content_at consts i) → ⊥

abbrev pub IsConstant : List Place → Content → ProbeValue → Type 0
IsConstant consts content (shown.Const index) = IsIndexOf consts content index
IsConstant consts content _ = ⊥

abbrev pub IsValue : List Place → values.Value → ProbeValue → Type 0
IsValue consts (values.Int n) v = v ≡ shown.Int n
IsValue consts (values.Long n) v = v ≡ shown.Long n
IsValue consts (values.Flt bits) v = v ≡ shown.Flt bits
IsValue consts (values.Dbl bits) v = v ≡ shown.Dbl bits
IsValue consts values.Null v = v ≡ shown.Null
IsValue consts (values.Obj number) v = v ≡ shown.Obj number
IsValue consts (values.Const content) v = IsConstant consts content v

-- ---- texts

-- bytes that are a text are shown as they are
abbrev pub IsText : List ℕ → List ℕ → Type 0
IsText bytes text = IsModifiedUtf8 bytes → text ≡ bytes

-- ---- events

abbrev pub opcode_of_call : Sort → ℕ
opcode_of_call Virtual = 182
opcode_of_call Special = 183
opcode_of_call Static = 184
opcode_of_call Interface = 185
opcode_of_call Dynamic = 186

abbrev pub opcode_of : Action → ℕ
opcode_of (Invoke sort method types) = opcode_of_call sort
opcode_of (FloatOperation opcode operands result) = opcode
opcode_of MonitorEnter = 194
opcode_of MonitorExit = 195
opcode_of _ = 0

-- a class, `.`, a name and a descriptor; a dynamic call has no class
abbrev pub called : Content → Option (List ℕ)
called (Member tag class name descriptor) = Some (class ++ 46 ∷ name ++ descriptor)
called (InvokeDynamic bootstrap name descriptor) = Some (name ++ descriptor)
called _ = None

abbrev pub content_of : Action → Option (List ℕ)
content_of (Invoke sort method types) = called method
content_of _ = None

abbrev pub IsContent : Option (List ℕ) → Option (List ℕ) → Type 0
IsContent (Some bytes) (Some text) = IsText bytes text
IsContent None None = Unit {0}
IsContent _ _ = ⊥

pub record IsEvent (consts : List Place) (e : Event) (event : ProbeEvent) : Type 0 where
  pub opcode : event.opcode ≡ opcode_of e.action
  pub content : IsContent (content_of e.action) event.content
  pub operands : AllZip (IsValue consts) e.operands event.operands.items

-- ---- the heap

abbrev pub IsObject : Object → List ℕ → Type 0
IsObject object text = IsText (class_of_object (Some object)) text

abbrev pub IsStatic : List Place → Heap → ProbeStatic → Type 0
IsStatic consts heap s =
    IsSomeAnd (get heap.statics (s.class_name, s.field, s.descriptor))
    (λ v. IsValue consts v s.value)

-- ---- the end

abbrev pub IsReturned : List Place → Option values.Value → ProbeOutcome → Type 0
IsReturned consts None (outcomes.Returned None) = Unit {0}
IsReturned consts (Some value) (outcomes.Returned (Some v)) = IsValue consts value v
IsReturned consts _ _ = ⊥

abbrev pub IsThrown : List Place → values.Value → ProbeOutcome → Type 0
IsThrown consts reference (outcomes.Threw v) = IsValue consts reference v
IsThrown consts reference _ = ⊥

abbrev pub IsEnding : List Place → Option machine.Ending → ProbeOutcome → Type 0
IsEnding consts (Some (machine.Returned value)) o = IsReturned consts value o
IsEnding consts (Some (machine.Thrown reference)) o = IsThrown consts reference o
IsEnding consts None o = o ≡ outcomes.GoesOn

-- the events in their order, how it comes out, the class of each object, and static fields
pub record IsEnd (consts : List Place) (o : machine.Outcome) (end : ProbeEnd) : Type 0 where
  pub events : AllZip (IsEvent consts) o.outside.events end.events.items
  pub outcome : IsEnding consts o.ending end.outcome
  pub objects : AllZip IsObject o.outside.heap.objects end.heap.objects.items
  pub statics : AllByRecursion (IsStatic consts o.outside.heap) end.heap.statics.items
