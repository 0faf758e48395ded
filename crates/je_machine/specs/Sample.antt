-- Small heaps, answers and methods, by which laws show what the machine does.
use Rattle.std.specs.Prelude.{ℕ, ℤ, pos, List, [], ◌∷◌, map, Option, Some, None, Bool, codes}
use Rattle.std.specs.FinMap.{empty}
use Rattle.je_desc.specs.FieldType.{FieldType, Base}
use Rattle.je_desc.specs.FieldType as types
use Rattle.je_consts.specs.declared.constant.MemberTag.{MemberTag}
use Rattle.je_consts.specs.declared.constant.MemberTag.TheVariants.{Method}
use Rattle.je_machine.specs.Content.{Member, Str, MethodHandle}
use Rattle.je_machine.specs.Value.{IntKind, FloatKind, ReferenceKind, Value, Int, Long, Null, Obj}
use Rattle.je_machine.specs.Value.{Const}
use Rattle.je_machine.specs.Heap.{Object, Array, Heap, Fields, new_instance}
use Rattle.je_machine.specs.Classes.{Classes}
use Rattle.je_machine.specs.Condition.{Comparison, Equals, Differs, IsLess, IsNotLess, IsGreater}
use Rattle.je_machine.specs.Condition.{IsNotGreater, Condition, is_met}
use Rattle.je_machine.specs.Action.{Action, Field, Sort, Static, Invoke, FloatOperation}
use Rattle.je_machine.specs.Outside.{Outside, Answer, Gives, Throws, Response, Threw}
use Rattle.je_machine.specs.Operation.{Act, Push, Throw, Do, Load, Store, Increment, Goto, Return}
use Rattle.je_machine.specs.Operation.{Handler, Program}
use Rattle.je_machine.specs.Step.{Ending, Outcome}

-- ---- heaps of one to three objects, without events and answers

abbrev pub objects_alone : List Object → Outside
objects_alone objects =
    record { heap = record { objects = objects; statics = empty }; events = []; answers = [] }

abbrev pub one_object : Object → Outside
one_object a = objects_alone (a ∷ [])

abbrev pub two_objects : Object → Object → Outside
two_objects a b = objects_alone (a ∷ b ∷ [])

abbrev pub three_objects : Object → Object → Object → Outside
three_objects a b c = objects_alone (a ∷ b ∷ c ∷ [])

-- an array of one int
abbrev pub array_of : List ℕ → ℤ → Object
array_of type n = Array type (Int n ∷ [])

abbrev pub bytes : Object
bytes = array_of (codes "[B") (pos 5)

-- an array of C, with null in it
abbrev pub c_array : Object
c_array = Array (codes "[LC;") (Null ∷ [])

-- a new object of the class is thrown, and stands behind the other
abbrev pub throws_new : Object → List ℕ → Response
throws_new a class = Threw (Obj 1) (two_objects a (new_instance class))

-- the type `int[]`
abbrev pub ints : FieldType
ints = types.Array (Base types.Int)

abbrev pub no_objects : Fields → Heap
no_objects statics = record { objects = []; statics = statics }

-- with a NullPointerException alone
abbrev pub null_thrown : Fields → Heap
null_thrown statics = record {
  objects = new_instance (codes "java/lang/NullPointerException") ∷ [];
  statics = statics;
}

-- ---- classes: C is below D, and D holds the int f that is named in C

abbrev pub c_below_d : Classes
c_below_d = record {
  below = (codes "C", codes "D") ∷ [];
  holders = ((codes "C", codes "f", codes "I"), codes "D")
      ∷ ((codes "C", codes "f", codes "I"), codes "E") ∷ [];
}

-- ---- constants and conditions

-- a method handle of this kind
abbrev pub handle : ℕ → MemberTag → List ℕ → List ℕ → List ℕ → Value
handle kind tag class name type = Const (MethodHandle kind tag class name type)

-- which of the six comparisons are met: =, ≠, <, ≥, > and ≤
abbrev pub met : (Comparison → Condition) → List Value → List Bool
met condition operands =
    map (λ c. is_met (condition c) operands)
    (Equals ∷ Differs ∷ IsLess ∷ IsNotLess ∷ IsGreater ∷ IsNotGreater ∷ [])

-- ---- calls and answers

abbrev pub before : Heap → List Answer → Outside
before heap answers = record { heap = heap; events = []; answers = answers }

-- the outside that saw one action, with this heap after it and these answers left
abbrev pub seen : Action → List Value → Heap → Heap → List Answer → Outside
seen action operands heap after answers = record {
  heap = after;
  events = record { action = action; operands = operands; heap = heap } ∷ [];
  answers = answers;
}

abbrev pub value_answer : Value → Heap → Answer
value_answer value heap = record { reply = Gives value; heap = heap }

abbrev pub throw_answer : Value → Heap → Answer
throw_answer reference heap = record { reply = Throws reference; heap = heap }

-- a method `int C.m(int, long)`
abbrev pub call_of : Sort → Action
call_of sort =
    Invoke sort (Member Method (codes "C") (codes "m") (codes "(IJ)I"))
    (record { params = Base types.Int ∷ Base types.Long ∷ []; result = Some (Base types.Int) })

-- its arguments, without a target
abbrev pub arguments : List Value
arguments = Int (pos 3) ∷ Long (pos 4) ∷ []

-- a method `static void C.n(C)`
abbrev pub call_without_result : Action
call_without_result =
    Invoke Static (Member Method (codes "C") (codes "n") (codes "(LC;)V"))
    (record { params = types.Object (codes "C") ∷ []; result = None })

-- the fields `long C.g` and `int C.f`
abbrev pub long_field : Field
long_field = record { class = codes "C"; name = codes "g"; type = Base types.Long }

abbrev pub int_field : Field
int_field = record { class = codes "C"; name = codes "f"; type = Base types.Int }

-- fadd
abbrev pub float_sum : Action
float_sum = FloatOperation 98 (FloatKind ∷ FloatKind ∷ []) FloatKind

-- fcmpl
abbrev pub float_comparison : Action
float_comparison = FloatOperation 149 (FloatKind ∷ FloatKind ∷ []) IntKind

-- ---- methods

-- an entry that catches all
abbrev pub entry : ℕ → ℕ → ℕ → Handler
entry start end target = record { start = start; end = end; target = target; catch_class = None }

-- an entry for the first place that catches a class
abbrev pub catching : List ℕ → ℕ → Handler
catching class target = record { start = 0; end = 1; target = target; catch_class = Some class }

-- sets a local variable, and calls with a value more on the stack; what is thrown it returns
abbrev pub caught : Program
caught = record {
  parameters = IntKind ∷ [];
  operations = Do (Push (Int (pos 4))) ∷ Store IntKind 1 ∷ Load IntKind 0 ∷ Do (Push (Long (pos 0)))
      ∷ Do (Act (call_of Static)) ∷ Return None ∷ Return (Some ReferenceKind) ∷ [];
  handlers = entry 4 5 6 ∷ [];
}

-- throws a string behind the range of its only handler
abbrev pub uncaught : Program
uncaught = record {
  parameters = IntKind ∷ [];
  operations = Do (Push (Const (Str (codes "s")))) ∷ Do Throw ∷ [];
  handlers = entry 0 1 0 ∷ [];
}

-- counts for ever
abbrev pub counter : Program
counter = record { parameters = []; operations = Increment 0 (pos 1) ∷ Goto 0 ∷ []; handlers = [] }

abbrev pub outcome : Option Ending → ℕ → List Value → Outside → Outcome
outcome ending left locals outside =
    record { ending = ending; left = left; locals = locals; outside = outside }
