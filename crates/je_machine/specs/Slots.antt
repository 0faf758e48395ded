-- Which local variables an instruction uses, and frames that are alike (JVMS 2.6.1).
use Rattle.std.specs.Prelude.{◌≡◌, ℕ, ◌<◌, List}
use Rattle.je_machine.specs.Value.{Value}
use Rattle.je_machine.specs.Operation.{Operation, Load, Store, Increment}
use Rattle.je_machine.specs.Frame.{Frame, Flow, Falls, Jumps, Leaves, Raises, Halts, local_at}

-- the local variables are the same below a slot
abbrev pub AgreeBelow : ℕ → List Value → List Value → Type 0
AgreeBelow limit a b = (slot : ℕ) → slot < limit → local_at a slot ≡ local_at b slot

-- the operation uses no local variable from the limit on
abbrev pub UsesBelow : ℕ → Operation → Type 0
UsesBelow limit (Load kind slot) = slot < limit
UsesBelow limit (Store kind slot) = slot < limit
UsesBelow limit (Increment slot by) = slot < limit
UsesBelow limit _ = Unit {0}

-- the operation writes the local variable
abbrev pub Writes : ℕ → Operation → Type 0
Writes slot (Store kind own) = own ≡ slot
Writes slot (Increment own by) = own ≡ slot
Writes slot _ = ⊥

-- the local variable is what it was, where the method goes on
abbrev pub KeepsLocal : ℕ → List Value → Flow → Type 0
KeepsLocal slot locals (Falls frame outside) = local_at frame.locals slot ≡ local_at locals slot
KeepsLocal slot locals (Jumps target frame outside) =
    local_at frame.locals slot ≡ local_at locals slot
KeepsLocal slot locals _ = Unit {0}

-- two frames of equal stacks, whose local variables are the same below a slot
pub record AlikeFrames (limit : ℕ) (f g : Frame) : Type 0 where
  pub stack : f.stack ≡ g.stack
  pub locals : AgreeBelow limit f.locals g.locals

-- two flows that lead to the same place, with frames alike below a slot
abbrev pub AlikeFlows : ℕ → Flow → Flow → Type 0
AlikeFlows limit (Falls f o) (Falls g p) = AlikeFrames limit f g × (o ≡ p)
AlikeFlows limit (Jumps t f o) (Jumps u g p) = (t ≡ u) × AlikeFrames limit f g × (o ≡ p)
AlikeFlows limit (Leaves r o) (Leaves q p) = (r ≡ q) × (o ≡ p)
AlikeFlows limit (Raises r o) (Raises q p) = (r ≡ q) × (o ≡ p)
AlikeFlows limit (Halts o) (Halts p) = o ≡ p
AlikeFlows limit _ _ = ⊥
