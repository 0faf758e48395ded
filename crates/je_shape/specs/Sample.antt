-- Small shapes, instructions and methods that laws compute.
use Rattle.std.specs.Prelude.{ℕ, zero, suc, List, [], ◌∷◌, Some, None, codes}
use Rattle.je_consts.specs.declared.constant.MemberTag.TheVariants as tags
use Rattle.je_desc.specs.FieldType.{FieldType, Base, Object}
use Rattle.je_desc.specs.FieldType as types
use Rattle.je_machine.specs.Content.{Member}
use Rattle.je_machine.specs.Action.{Action, Invoke, GetField, PutField, Special}
use Rattle.je_machine.specs.Operation.{Operation, Do, Act}
use Rattle.je_shape.specs.Slot.{Slot, Is, Reference, IntWord, LongWord}
use Rattle.je_shape.specs.Shape.{Shape, Nothing, Has}
use Rattle.je_shape.specs.Flow.{shape_of}
use Rattle.je_shape.specs.Least.{Method, Assignment}

abbrev pub int : Slot
int = Is IntWord

abbrev pub long : Slot
long = Is LongWord

-- a reference to an object of one class
abbrev pub object : List ℕ → Slot
object name = Reference (name ∷ [])

abbrev pub act : Action → Operation
act action = Do (Act action)

-- a call of a constructor of a class with one int
abbrev pub initialise : List ℕ → Operation
initialise class =
    act (Invoke Special (Member tags.Method class (codes "<init>") (codes "(I)V"))
    (record { params = Base types.Int ∷ []; result = None }))

-- a field of a class that holds an int
abbrev pub get_int : List ℕ → Operation
get_int class = act (GetField (record { class = class; name = codes "f"; type = Base types.Int }))

abbrev pub put_int : List ℕ → Operation
put_int class = act (PutField (record { class = class; name = codes "f"; type = Base types.Int }))

-- a static method without parameters and frames
abbrev pub plain_method : List Operation → Method
plain_method operations =
    record {
      class = codes "A";
      program = record { parameters = []; operations = operations; handlers = [] };
      entry = shape_of [] [];
      frames = [];
      result = Some None;
    }

-- the same shape at the first two indexes, and nothing behind
abbrev pub at_two : Shape → Assignment
at_two s zero = Has s
at_two s (suc zero) = Has s
at_two s (suc (suc at)) = Nothing
