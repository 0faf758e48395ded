-- Shapes: what is known of the stack and the local variables at an instruction, and their order
-- (JVMS 4.10.1.4).
use Rattle.std.specs.Prelude.{ℕ, zero, suc, List, [], ◌∷◌}
use Rattle.je_shape.specs.Slot.{Slot, Top, IsBelow, IsItemBelow}

-- The stack has its top first, and a long or double is one item of it. In the local variables it
-- takes two places, of which the second is Top. Behind the last local variable all are Top.
pub record Shape : Type 0 where
  pub stack : List Slot
  pub locals : List Slot

-- the local variable of an index
abbrev pub local_at : List Slot → ℕ → Slot
local_at [] slot = Top
local_at (first ∷ locals) zero = first
local_at (first ∷ locals) (suc slot) = local_at locals slot

-- stacks of one depth, item by item
abbrev pub StackBelow : List Slot → List Slot → Type 0
StackBelow [] [] = Unit {0}
StackBelow (s ∷ few) (t ∷ many) = IsItemBelow s t × StackBelow few many
StackBelow _ _ = ⊥

-- local variables at each index
abbrev pub LocalsBelow : List Slot → List Slot → Type 0
LocalsBelow few many = (slot : ℕ) → IsBelow (local_at few slot) (local_at many slot)

-- what a frame of the first shape is known to be, one of the second is too
pub record ShapeBelow (s t : Shape) : Type 0 where
  pub stack : StackBelow s.stack t.stack
  pub locals : LocalsBelow s.locals t.locals

-- shapes that say the same: names may come in another order, and Top may end the local variables
pub record AreAlike (s t : Shape) : Type 0 where
  pub below : ShapeBelow s t
  pub above : ShapeBelow t s

-- What is known of an index: that nothing comes to it, a shape, or that what comes to it has no
-- shape.
pub data Known : Type 0 where
  Nothing : Known
  Has : (shape : Shape) → Known
  Broken : Known

-- nothing is below all, and all is below broken
abbrev pub KnownBelow : Known → Known → Type 0
KnownBelow Nothing there = Unit {0}
KnownBelow (Has s) (Has t) = ShapeBelow s t
KnownBelow known Broken = Unit {0}
KnownBelow _ _ = ⊥
