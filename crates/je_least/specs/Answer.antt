-- What is known of the shapes of a method, as it is answered.
use Rattle.std.specs.Prelude.{◌≡◌, ℕ, List, length, map, Option, Some, slice_get}
use Rattle.je_machine.specs.Value.{Kind}
use Rattle.je_machine.specs.Operation.{Program}
use Rattle.je_shape.specs.Shape.{Shape, Known, Nothing, Has}
use Rattle.je_shape.specs.Least.{Method, Assignment, IsLeast, IsFault, IsFirstFault}
use Rattle.je_shape.specs.Views.{shape_seen}
use Rattle.je_shape.specs.declared.slot.Shape as program

-- an index without a shape is not reached
abbrev pub known_of : Option (Option Shape) → Known
known_of (Some (Some s)) = Has s
known_of _ = Nothing

-- A method of the program: the name of its class, its program, the shape with which it begins, the
-- frames that its StackMapTable gives for indexes, and the kind of its result, where that is given.
abbrev pub method_of :
    List ℕ → Program → program.Shape → List (ℕ × program.Shape) → Option (Option Kind) → Method
method_of class program entry frames result =
    record {
      class = class;
      program = program;
      entry = shape_seen entry;
      frames = map (λ f. (f.0, shape_seen f.1)) frames;
      result = result;
    }

-- One for each instruction: the least assignment, which has no fault.
pub record IsShapes (m : Method) (list : List (Option Shape)) : Type 0 where
  pub assignment : Assignment
  pub least : IsLeast m assignment
  pub whole : (at : ℕ) → IsFault m assignment at → ⊥
  pub count : length list ≡ length m.program.operations
  pub shown : (at : ℕ) → assignment at ≡ known_of (slice_get list at)

-- The least assignment, and the first index of a fault of it.
pub record IsBadCode (m : Method) (at : ℕ) : Type 0 where
  pub assignment : Assignment
  pub least : IsLeast m assignment
  pub first : IsFirstFault m assignment at
