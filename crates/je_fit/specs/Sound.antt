-- Assignments of shapes without a fault, and what a run keeps under one (JVMS 4.10.1).
use Rattle.std.specs.Prelude.{◌≡◌, ℕ, suc, ◌<◌, ◌≤◌, List, [], ◌∷◌, length, Option, Some, None}
use Rattle.std.specs.Prelude.{Bool, true, false, IsTrue, IfSome}
use Rattle.std.specs.List.{AllByRecursion, list_any}
use Rattle.je_desc.specs.FieldType.{FieldType, Array}
use Rattle.je_machine.specs.Value.{Kind, Value}
use Rattle.je_machine.specs.Acts.{is_reference, is_result}
use Rattle.je_machine.specs.Action.{NewArray}
use Rattle.je_machine.specs.Operation.{Push, Act, Operation, Do, Handler, Program}
use Rattle.je_machine.specs.Frame.{Frame, Flow, Falls, Jumps, Leaves, Raises, Halts, frame_of}
use Rattle.je_machine.specs.Step.{Ending, Returned, Thrown, Outcome, Progress, Goes, Stops}
use Rattle.je_machine.specs.Machine.{State, covers}
use Rattle.je_shape.specs.Shape.{Nothing}
use Rattle.je_shape.specs.Flow.{slot_of_value}
use Rattle.je_shape.specs.Least.{Method, Assignment, IsClosed, IsFault}
use Rattle.je_fit.specs.Fits.{fits_item, fits_known, is_return_of}

-- ---- programs of class files

abbrev pub is_array : FieldType → Bool
is_array (Array component) = true
is_array _ = false

-- A constant that is pushed is one of its type, and what is made as an array is an array.
abbrev pub is_well_formed : Operation → Bool
is_well_formed (Do (Push value)) = fits_item (slot_of_value value) value
is_well_formed (Do (Act (NewArray type dimensions))) = is_array type
is_well_formed operation = true

-- What shapes rest on of the static constraints on code (JVMS 4.9.1) and of the exception table
-- (JVMS 4.7.3), where each handler is within the code.
pub record IsWellFormed (p : Program) : Type 0 where
  pub operands : AllByRecursion (λ o. IsTrue (is_well_formed o)) p.operations
  pub handlers : AllByRecursion (λ (h : Handler). h.target < length p.operations) p.handlers

-- ---- shapes

-- Closed, and each index has nothing or a shape that serves it. Behind the code nothing is.
pub record IsSound (m : Method) (x : Assignment) : Type 0 where
  pub closed : IsClosed m x
  pub whole : (at : ℕ) → IsFault m x at → ⊥
  pub behind : (at : ℕ) → length m.program.operations ≤ at → x at ≡ Nothing

-- ---- what a run keeps

-- of the kind of the method's result, where that is given
abbrev pub is_declared : Option (Option Kind) → Option Value → Bool
is_declared None result = true
is_declared (Some kind) result = is_result kind result

-- A result is of the kind of a return of the program, and of the method's; what is thrown is a
-- reference that is not null.
abbrev pub EndFits : Method → Ending → Type 0
EndFits m (Returned result) =
    IsTrue (list_any (is_return_of result) m.program.operations)
    × IsTrue (is_declared m.result result)
EndFits m (Thrown reference) = IsTrue (is_reference reference)

-- where the handler covers the index, it is entered in a frame that fits
abbrev pub CatchFits : Assignment → ℕ → Frame → Handler → Type 0
CatchFits x at frame h = IsTrue (covers at h) → IsTrue (fits_known (x h.target) frame)

-- What the instruction at an index comes to, from a frame with these local variables: what it goes
-- on in fits the next index, or the target; a throw fits each handler that covers the index, whose
-- stack has the exception alone (JVMS 2.10); and an ending fits.
abbrev pub FlowKeeps : Method → Assignment → ℕ → List Value → Flow → Type 0
FlowKeeps m x at locals (Falls frame outside) = IsTrue (fits_known (x (suc at)) frame)
FlowKeeps m x at locals (Jumps target frame outside) = IsTrue (fits_known (x target) frame)
FlowKeeps m x at locals (Leaves result outside) = EndFits m (Returned result)
FlowKeeps m x at locals (Raises reference outside) =
    EndFits m (Thrown reference)
    × AllByRecursion (CatchFits x at (frame_of (reference ∷ []) locals)) m.program.handlers
FlowKeeps m x at locals (Halts outside) = Unit {0}

-- an outcome may have no ending yet
abbrev pub OutcomeFits : Method → Outcome → Type 0
OutcomeFits m outcome = IfSome outcome.ending (EndFits m)

-- it goes on in a frame that fits its index, or stops with an ending that fits
abbrev pub StepFits : Method → Assignment → Progress State → Type 0
StepFits m x (Goes left s) = IsTrue (fits_known (x s.place) s.frame)
StepFits m x (Stops outcome) = OutcomeFits m outcome
