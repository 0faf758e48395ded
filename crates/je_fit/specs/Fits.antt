-- Which values, frames and flows of the machine fit slots and shapes (JVMS 4.10.1).
use Rattle.std.specs.Prelude.{ℕ, pos, List, [], ◌∷◌, Option, Bool, true, false, ◌&&◌, IsTrue}
use Rattle.je_machine.specs.Value.{Kind, IntKind, LongKind, FloatKind, DoubleKind, ReferenceKind}
use Rattle.je_machine.specs.Value.{Value, Int, is_of_kind}
use Rattle.je_machine.specs.Acts.{is_reference, is_result}
use Rattle.je_machine.specs.Operation.{Operation, Return}
use Rattle.je_machine.specs.Frame.{Frame, Flow, Falls, Jumps, Leaves, Raises, Halts}
use Rattle.je_shape.specs.Slot.{Word, IntWord, FloatWord, LongWord, DoubleWord, UninitThis, Uninit}
use Rattle.je_shape.specs.Slot.{Slot, Top, Is, Reference}
use Rattle.je_shape.specs.Shape.{Shape, Known, Nothing, Has, Broken}

-- ---- values

-- What waits for its constructor is a reference like any other.
abbrev pub kind_of_word : Word → Kind
kind_of_word IntWord = IntKind
kind_of_word LongWord = LongKind
kind_of_word FloatWord = FloatKind
kind_of_word DoubleWord = DoubleKind
kind_of_word UninitThis = ReferenceKind
kind_of_word (Uninit new) = ReferenceKind

-- A value of the kind, and within the range of its type. Names are not compared, since the machine
-- gives a reference no type. Anything is Top.
abbrev pub fits : Slot → Value → Bool
fits Top value = true
fits (Is word) value = is_of_kind (kind_of_word word) value
fits (Reference names) value = is_of_kind ReferenceKind value

-- the same on the stack, where nothing is Top
abbrev pub fits_item : Slot → Value → Bool
fits_item Top value = false
fits_item s value = fits s value

-- ---- frames

-- of one depth, item by item
abbrev pub fits_stack : List Slot → List Value → Bool
fits_stack [] [] = true
fits_stack (s ∷ shape) (value ∷ stack) = fits_item s value && fits_stack shape stack
fits_stack _ _ = false

-- Each local variable that the shape has. What nothing was written to is Int 0, and behind the
-- last slot of the shape is anything.
abbrev pub fits_locals : List Slot → List Value → Bool
fits_locals [] locals = true
fits_locals (s ∷ shape) [] = fits s (Int (pos 0)) && fits_locals shape []
fits_locals (s ∷ shape) (value ∷ locals) = fits s value && fits_locals shape locals

-- the frame has the shape
abbrev pub fits_shape : Shape → Frame → Bool
fits_shape s frame = fits_stack s.stack frame.stack && fits_locals s.locals frame.locals

-- what is known is a shape, which the frame has
abbrev pub fits_known : Known → Frame → Bool
fits_known Nothing frame = false
fits_known (Has s) frame = fits_shape s frame
fits_known Broken frame = false

-- ---- what an instruction comes to

-- the instruction is a return, and this is a result of its kind
abbrev pub is_return_of : Option Value → Operation → Bool
is_return_of result (Return kind) = is_result kind result
is_return_of result _ = false

-- A frame of the shape; a result of the return's kind; or a throw of a reference that is not null.
abbrev pub FlowFits : Operation → Shape → Flow → Type 0
FlowFits operation s (Falls frame outside) = IsTrue (fits_shape s frame)
FlowFits operation s (Jumps target frame outside) = IsTrue (fits_shape s frame)
FlowFits operation s (Leaves result outside) = IsTrue (is_return_of result operation)
FlowFits operation s (Raises reference outside) = IsTrue (is_reference reference)
FlowFits operation s (Halts outside) = Unit {0}

-- The index at which it goes on is one of these: the next one, or the target.
abbrev pub GoesTo : (ℕ → Type 0) → ℕ → Flow → Type 0
GoesTo P next (Falls frame outside) = P next
GoesTo P next (Jumps target frame outside) = P target
GoesTo P next _ = Unit {0}
