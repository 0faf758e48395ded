-- What is given to a run: arguments, a heap, answers, and code.
use Rattle.std.specs.Prelude.{◌≡◌, ℕ, List, [], ◌∷◌, map, Option, Some, None, Bool, false}
use Rattle.std.specs.Prelude.{nat_eq, if◌then◌else◌}
use Rattle.std.specs.List.{AllByRecursion, AllZip}
use Rattle.std.specs.FinMap.{empty, insert}
use Rattle.je_consts.specs.declared.place.Place.{Place}
use Rattle.je_instr.specs.declared.program.Program.{Program as Code}
use Rattle.je_instr.specs.Allowed.{IsAllowed}
use Rattle.je_instr.specs.CodeProgram.{IsHandlerOf}
use Rattle.je_instr.specs.Content.{content_at}
use Rattle.je_instr.specs.Resolves.{Resolves}
use Rattle.je_machine.specs.Content.{Content}
use Rattle.je_machine.specs.Value as machine
use Rattle.je_machine.specs.Heap.{Fields, Object, Array, Heap, new_instance}
use Rattle.je_machine.specs.Operation.{Handler, Program}
use Rattle.je_machine.specs.Outside.{Reply, Gives, Throws, Answer}
use Rattle.je_probe.specs.declared.value.ProbeValue.{ProbeValue}
use Rattle.je_probe.specs.declared.value.ProbeValue.TheVariants as given
use Rattle.je_probe.specs.declared.answer.ProbeAnswer.{ProbeAnswer}
use Rattle.je_probe.specs.declared.answer.ProbeAnswer.TheVariants as answers
use Rattle.je_probe.specs.declared.heap.ProbeStatic.{ProbeStatic}

-- an index that names nothing counts as null
abbrev pub constant_given : Option Content → machine.Value
constant_given (Some content) = machine.Const content
constant_given None = machine.Null

abbrev pub value_given : List Place → ProbeValue → machine.Value
value_given consts (given.Int n) = machine.Int n
value_given consts (given.Long n) = machine.Long n
value_given consts (given.Flt bits) = machine.Flt bits
value_given consts (given.Dbl bits) = machine.Dbl bits
value_given consts given.Null = machine.Null
value_given consts (given.Obj number) = machine.Obj number
value_given consts (given.Const index) = constant_given (content_at consts index)

abbrev pub kind_given : ProbeValue → machine.Kind
kind_given (given.Int n) = machine.IntKind
kind_given (given.Long n) = machine.LongKind
kind_given (given.Flt bits) = machine.FloatKind
kind_given (given.Dbl bits) = machine.DoubleKind
kind_given given.Null = machine.ReferenceKind
kind_given (given.Obj number) = machine.ReferenceKind
kind_given (given.Const index) = machine.ReferenceKind

-- ---- the heap

abbrev pub is_array_text : List ℕ → Bool
is_array_text [] = false
is_array_text (first ∷ rest) = nat_eq first 91

-- an array without elements where the text begins with `[`, else an object whose fields are zeros
abbrev pub object_given : List ℕ → Object
object_given text = if is_array_text text then Array text [] else new_instance text

abbrev pub static_given : List Place → ProbeStatic → Fields → Fields
static_given consts s fields =
    insert fields (s.class_name, s.field, s.descriptor) (value_given consts s.value)

-- one after the other, so that of one field the last counts
abbrev pub statics_given : List Place → List ProbeStatic → Fields → Fields
statics_given consts [] fields = fields
statics_given consts (s ∷ statics) fields =
    statics_given consts statics (static_given consts s fields)

abbrev pub heap_given : List Place → List (List ℕ) → List ProbeStatic → Heap
heap_given consts objects statics =
    record {
      objects = map object_given objects;
      statics = statics_given consts statics empty;
    }

-- ---- answers

abbrev pub reply_given : List Place → ProbeAnswer → Reply
reply_given consts (answers.Value value) = Gives (value_given consts value)
reply_given consts (answers.Throw value) = Throws (value_given consts value)

-- its heap is put in when it is taken
abbrev pub answer_given : List Place → ProbeAnswer → Answer
answer_given consts a =
    record { reply = reply_given consts a; heap = record { objects = []; statics = empty } }

-- ---- code

-- The parameters are of the kinds of the arguments. Where each instruction has operands that are
-- allowed, it is its operation, and else there are none. Where each entry catches a class or all,
-- it is its handler, and else there are none.
pub record IsMethod (consts : List Place) (code : Code) (args : List ProbeValue) (p : Program) :
    Type 0 where
  pub parameters : p.parameters ≡ map kind_given args
  pub operations : AllByRecursion (IsAllowed consts) code.instrs
      → AllZip (Resolves consts) code.instrs p.operations
  pub nothing : (AllByRecursion (IsAllowed consts) code.instrs → ⊥) → p.operations ≡ []
  pub handlers : (some : List Handler) → AllZip (IsHandlerOf consts) code.handlers some
      → AllZip (IsHandlerOf consts) code.handlers p.handlers
  pub none : ((some : List Handler) → AllZip (IsHandlerOf consts) code.handlers some → ⊥)
      → p.handlers ≡ []
