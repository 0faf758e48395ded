-- A small method into which blocks are put in each of the ways.
use Rattle.std.specs.Prelude.{ℕ, List, [], ◌∷◌, Bool, true, false}
use Rattle.je_instr.specs.declared.instr.Instr.{Instr}
use Rattle.je_instr.specs.declared.instr.Instr.TheVariants.{Simple, Branch, Goto, New}
use Rattle.je_instr.specs.declared.opcodes.TheConstants as op
use Rattle.je_instr.specs.declared.program.Handler.{Handler}
use Rattle.je_instr.specs.declared.program.Program.{Program}
use Rattle.je_shape.specs.declared.slot.Shape.{Shape}
use Rattle.je_shape.specs.declared.slot.Slot.{Slot}
use Rattle.je_shape.specs.declared.slot.Slot.TheVariants.{Uninit}
use Rattle.je_put.specs.declared.block.Block.{Block}
use Rattle.je_put.specs.declared.block.EntryBlock.{EntryBlock}
use Rattle.je_put.specs.declared.block.PlaceBlock.{PlaceBlock}

abbrev pub handler : ℕ → ℕ → ℕ → ℕ → Handler
handler start end target catch_const =
    record { start = start; end = end; target = target; catch_const = catch_const }

abbrev pub known : ℕ → List Slot → ℕ × Shape
known index stack = (index, record { stack = stack; locals = [] })

abbrev block : List Instr → List Handler → List (ℕ × Shape) → Block
block instrs handlers shapes =
    record { instrs = instrs; handlers = handlers; shapes = shapes; depth = 1; locals = 0 }

-- `new`, `nop`, `ifeq` to the second, `nop`, `return`. One handler is the last instruction, and
-- catches what the first two throw; the other is the fourth and catches a class of its own and of
-- the instruction before it.
abbrev pub sample : Program
sample = record {
  instrs = New 1 ∷ Simple op.NOP ∷ Branch op.IFEQ 1 ∷ Simple op.NOP ∷ Simple op.RETURN ∷ [];
  handlers = handler 0 2 4 0 ∷ handler 2 4 3 7 ∷ [];
}

abbrev place : Block → Bool → Bool → PlaceBlock
place b removed jumps = record { at = 1; removed = removed; jumps = jumps; block = b }

-- At the second instruction: what jumps pass by, nothing that they meet, and in its place a block
-- that throws, which knows a value of its own second instruction and then one of the method's
-- first.
abbrev pub sample_places : List PlaceBlock
sample_places =
    place (block (Simple op.NOP ∷ []) [] []) false false
    ∷ place (block [] [] []) false true
    ∷ place (block (Goto 2 ∷ Simple op.ATHROW ∷ []) (handler 0 1 1 0 ∷ [])
    (known 0 (Uninit 1 ∷ []) ∷ known 2 (Uninit 2 ∷ []) ∷ [])) true true
    ∷ []

-- in the way of the last instruction
abbrev pub sample_entries : List EntryBlock
sample_entries =
    record {
      target = 4;
      catch_const = 0;
      block = block (Simple op.POP ∷ []) [] (known 0 [] ∷ known 1 [] ∷ []);
    }
    ∷ []
