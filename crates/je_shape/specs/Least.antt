-- The shapes of a method: the least assignment to its indexes that is closed (JVMS 4.10.1.6).
use Rattle.std.specs.Prelude.{◌≡◌, ℕ, suc, ◌<◌, ◌⊎◌, List, [], ◌∷◌, ◌++◌, length, map}
use Rattle.std.specs.Prelude.{Option, Some, None, IsTrue, slice_get, option_map, unwrap_or, nat_eq}
use Rattle.std.specs.Prelude.{codes}
use Rattle.std.specs.List.{AllByRecursion, find}
use Rattle.je_machine.specs.Value.{Kind}
use Rattle.je_machine.specs.Operation.{Throw, Operation, Do, Branch, Goto, Switch, Return}
use Rattle.je_machine.specs.Operation.{Handler, Program}
use Rattle.je_machine.specs.Machine.{covers}
use Rattle.je_shape.specs.Slot.{Slot, Top, Is, Reference}
use Rattle.je_shape.specs.Shape.{Shape, local_at, Known, Nothing, Has, Broken, KnownBelow}
use Rattle.je_shape.specs.Flow.{shape_of, flow}
use Rattle.je_shape.specs.Serves.{ServesOperation}

-- A method: the name of its class, its program, the shape with which it begins, the frames that its
-- StackMapTable gives for indexes, and the kind of its result, where that is given.
pub record Method : Type 0 where
  pub class : List ℕ
  pub program : Program
  pub entry : Shape
  pub frames : List (ℕ × Shape)
  pub result : Option (Option Kind)

-- ---- where an instruction leads

-- the next instruction follows this one
abbrev pub next_of : ℕ → Operation → List ℕ
next_of at (Do Throw) = []
next_of at (Goto target) = []
next_of at (Switch cases fallback) = []
next_of at (Return kind) = []
next_of at operation = suc at ∷ []

abbrev pub targets_of : Operation → List ℕ
targets_of (Branch condition target) = target ∷ []
targets_of (Goto target) = target ∷ []
targets_of (Switch cases fallback) = fallback ∷ map (λ c. c.1) cases
targets_of _ = []

abbrev pub successors : ℕ → Operation → List ℕ
successors at operation = next_of at operation ++ targets_of operation

-- the handler finds what it catches on the stack, and the local variables from before
abbrev pub caught : Handler → Shape → Shape
caught h s =
    shape_of
    (Reference (unwrap_or h.catch_class (codes "java/lang/Throwable") ∷ []) ∷ [])
    s.locals

-- ---- frames (JVMS 4.7.4)

-- Names are not compared.
abbrev pub ItemAgrees : Slot → Slot → Type 0
ItemAgrees Top Top = Unit {0}
ItemAgrees (Is a) (Is b) = a ≡ b
ItemAgrees (Reference few) (Reference many) = Unit {0}
ItemAgrees _ _ = ⊥

-- a frame that leaves a local variable as Top takes anything there
abbrev pub LocalAgrees : Slot → Slot → Type 0
LocalAgrees s Top = Unit {0}
LocalAgrees s frame = ItemAgrees s frame

abbrev pub StackAgrees : List Slot → List Slot → Type 0
StackAgrees [] [] = Unit {0}
StackAgrees (s ∷ stack) (t ∷ frame) = ItemAgrees s t × StackAgrees stack frame
StackAgrees _ _ = ⊥

-- the shape agrees with the frame
pub record Agrees (s frame : Shape) : Type 0 where
  pub stack : StackAgrees s.stack frame.stack
  pub locals : (slot : ℕ) → LocalAgrees (local_at s.locals slot) (local_at frame.locals slot)

-- the first frame of an index
abbrev pub frame_at : List (ℕ × Shape) → ℕ → Option Shape
frame_at frames at = option_map (λ f. f.1) (find (λ f. nat_eq f.0 at) frames)

-- ---- closed assignments

-- a method's indexes and what is known of each; behind the code nothing is
abbrev pub Assignment : Type 0
Assignment = ℕ → Known

abbrev pub IsBroken : Known → Type 0
IsBroken Broken = Unit {0}
IsBroken _ = ⊥

-- What comes to an index is below what is known there. Where there is a frame, the shape agrees
-- with it and the frame stands, or the index is broken.
abbrev pub Arrives : Option Shape → Known → Known → Type 0
Arrives None known there = KnownBelow known there
Arrives (Some frame) Nothing there = Unit {0}
Arrives (Some frame) (Has s) there =
    (Agrees s frame × KnownBelow (Has frame) there) ⊎ IsBroken there
Arrives (Some frame) Broken there = IsBroken there

-- it comes to an index of the code
abbrev pub Reaches : Method → Assignment → ℕ → Known → Type 0
Reaches m x to known =
    to < length m.program.operations → Arrives (frame_at m.frames to) known (x to)

-- One comes to each successor, and another to each handler that covers the index.
pub record Sends (m : Method) (x : Assignment) (at : ℕ) (operation : Operation) (left : Known)
    (thrown : Handler → Known) : Type 0 where
  pub successors : AllByRecursion (λ to. Reaches m x to left) (successors at operation)
  pub handlers :
      AllByRecursion (λ h. IsTrue (covers at h) → Reaches m x h.target (thrown h))
      m.program.handlers

-- a return of a method whose result is given is of that kind
abbrev pub ReturnsAs : Option (Option Kind) → Operation → Type 0
ReturnsAs (Some result) (Return kind) = kind ≡ result
ReturnsAs _ _ = Unit {0}

-- the shape serves the instruction, and no successor is outside the code
pub record Serves (m : Method) (at : ℕ) (operation : Operation) (s : Shape) : Type 0 where
  pub shape : ServesOperation m.program.operations at operation s
  pub returns : ReturnsAs m.result operation
  pub inside : AllByRecursion (λ to. to < length m.program.operations) (successors at operation)

-- A shape that serves flows on. One that does not flows on as broken, as broken does. It is a
-- choice: of closed assignments the least is wanted, and a shape that serves is below broken.
abbrev pub Passes : Method → Assignment → ℕ → Operation → Known → Type 0
Passes m x at operation Nothing = Unit {0}
Passes m x at operation (Has s) =
    (Serves m at operation s
    × Sends m x at operation (Has (flow m.class at operation s)) (λ h. Has (caught h s)))
    ⊎ Sends m x at operation Broken (λ _. Broken)
Passes m x at operation Broken = Sends m x at operation Broken (λ _. Broken)

pub record IsClosed (m : Method) (x : Assignment) : Type 0 where
  pub starts : Reaches m x 0 (Has m.entry)
  pub passes :
      (at : ℕ) (operation : Operation) → slice_get m.program.operations at ≡ Some operation
      → Passes m x at operation (x at)

-- closed, and below each that is
pub record IsLeast (m : Method) (x : Assignment) : Type 0 where
  pub closed : IsClosed m x
  pub least : (y : Assignment) → IsClosed m y → (at : ℕ) → KnownBelow (x at) (y at)

-- ---- faults

abbrev pub IsFaultOf : Method → ℕ → Operation → Known → Type 0
IsFaultOf m at operation Nothing = ⊥
IsFaultOf m at operation (Has s) = Serves m at operation s → ⊥
IsFaultOf m at operation Broken = Unit {0}

-- an instruction that is broken, or that its shape does not serve
pub record IsFault (m : Method) (x : Assignment) (at : ℕ) : Type 0 where
  pub operation : Operation
  pub there : slice_get m.program.operations at ≡ Some operation
  pub fault : IsFaultOf m at operation (x at)

-- the least index of one
pub record IsFirstFault (m : Method) (x : Assignment) (at : ℕ) : Type 0 where
  pub fault : IsFault m x at
  pub first : (before : ℕ) → before < at → IsFault m x before → ⊥
