-- What a reference does at each place keeps to what is known of the places (JVMS 4.10.1).
use Rattle.std.specs.Prelude.{◌≡◌, ℕ, ◌≤◌, List, [], ◌∷◌, length, Option, Some, None, IfSome}
use Rattle.std.specs.Prelude.{IsTrue, slice_get}
use Rattle.je_machine.specs.Value.{Kind, Value}
use Rattle.je_machine.specs.Classes.{Classes}
use Rattle.je_machine.specs.Outside.{Outside}
use Rattle.je_machine.specs.Acts.{is_reference}
use Rattle.je_machine.specs.Operation.{Operation, Handler}
use Rattle.je_machine.specs.Frame.{Frame, Flow, Falls, Jumps, Leaves, Raises, Halts, frame_of}
use Rattle.je_machine.specs.Frame.{perform}
use Rattle.je_machine.specs.Step.{Ending, Returned, Thrown, Outcome}
use Rattle.je_machine.specs.Machine.{Outer, catcher}
use Rattle.je_shape.specs.Shape.{Known, Nothing}
use Rattle.je_shape.specs.Least.{Assignment}
use Rattle.je_fit.specs.Fits.{fits_known}
use Rattle.je_fit.specs.Sound.{is_declared}
use Rattle.je_splice.specs.Block.{Completes, Throws, Returns, Meant, Exits, Stays}
use Rattle.je_splice.specs.Reference.{Doing, Performs, Means, Reference, thrown_at}
use Rattle.je_splice.specs.Layout.{Item, next_place}
use Rattle.je_splice.specs.Laid.{Fragment, doing_of}

-- ---- what is come to

-- How a method with such a result may end: with one of that kind, or with a throw of a reference
-- that is not null.
abbrev pub MayEnd : Option (Option Kind) → Ending → Type 0
MayEnd kind (Returned result) = IsTrue (is_declared kind result)
MayEnd kind (Thrown reference) = IsTrue (is_reference reference)

-- an outcome may have no ending yet
abbrev pub MayComeTo : Option (Option Kind) → Outcome → Type 0
MayComeTo kind outcome = IfSome outcome.ending (MayEnd kind)

-- A reference is thrown. Where a handler catches it, it is entered in a frame that fits: what was
-- thrown alone on the stack, and the local variables from before (JVMS 2.10).
abbrev pub ThrowKeeps : Assignment → Option ℕ → Value → List Value → Type 0
ThrowKeeps x target reference locals =
    IsTrue (is_reference reference)
    × IfSome target (λ to. IsTrue (fits_known (x to) (frame_of (reference ∷ []) locals)))

-- What an instruction comes to fits: by what is known of the next place, and where throws go.
abbrev pub PerformKeeps : Option (Option Kind) → Assignment → Known → Outer → List Value → Flow
    → Type 0
PerformKeeps kind x next outer locals (Falls frame outside) = IsTrue (fits_known next frame)
PerformKeeps kind x next outer locals (Jumps target frame outside) =
    IsTrue (fits_known (x target) frame)
PerformKeeps kind x next outer locals (Leaves result outside) = MayEnd kind (Returned result)
PerformKeeps kind x next outer locals (Raises reference outside) =
    ThrowKeeps x (outer outside.heap reference) reference locals
PerformKeeps kind x next outer locals (Halts outside) = Unit {0}

-- the same of what is meant, which brings its local variables with it
abbrev pub MeantKeeps : Option (Option Kind) → Assignment → Known → Outer → Meant → Type 0
MeantKeeps kind x next outer (Exits (Completes stack) left locals outside) =
    IsTrue (fits_known next (frame_of stack locals))
MeantKeeps kind x next outer (Exits (Throws reference) left locals outside) =
    ThrowKeeps x (outer outside.heap reference) reference locals
MeantKeeps kind x next outer (Exits (Returns result) left locals outside) =
    MayEnd kind (Returned result)
MeantKeeps kind x next outer (Stays left locals outside) = Unit {0}

-- ---- what is done

-- From each frame that fits what is known before it, whatever the other classes, the outside and
-- the bound are, it comes to what fits.
abbrev pub DoingKeeps : Option (Option Kind) → Assignment → Known → Known → (Classes → Outer)
    → Doing → Type 0
DoingKeeps kind x before next outer (Performs operation) =
    (classes : Classes) (frame : Frame) (outside : Outside) → IsTrue (fits_known before frame)
    → PerformKeeps kind x next (outer classes) frame.locals
    (perform classes operation frame outside)
DoingKeeps kind x before next outer (Means meaning) =
    (classes : Classes) (bound : ℕ) (frame : Frame) (outside : Outside)
    → IsTrue (fits_known before frame)
    → MeantKeeps kind x next (outer classes) (meaning classes bound frame outside)

-- ---- a reference

-- What is done at each place keeps to what is known of the places. Of a place where nothing is
-- done nothing is known.
pub record IsShaped (kind : Option (Option Kind)) (x : Assignment) (r : Reference) : Type 0 where
  pub each : (place : ℕ) (doing : Doing) → r.doing place ≡ Some doing
      → DoingKeeps kind x (x place) (x (r.next place)) (λ classes. thrown_at r classes place) doing
  pub inside : (place : ℕ) → r.doing place ≡ None → x place ≡ Nothing

-- ---- items in a row

-- The same of items, whose places are theirs. Behind them nothing is known.
pub record ItemsKeep (kind : Option (Option Kind)) (x : Assignment)
    (items : List (Item Operation Fragment)) (handlers : List Handler) : Type 0 where
  pub each : (place : ℕ) (item : Item Operation Fragment) → slice_get items place ≡ Some item
      → DoingKeeps kind x (x place) (x (next_place items place))
      (λ classes. catcher handlers classes place) (doing_of item)
  pub behind : (place : ℕ) → length items ≤ place → x place ≡ Nothing
