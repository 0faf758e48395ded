-- Blocks at the indexes of a program, as the marks of a layout.
use Rattle.std.specs.Prelude.{ℕ, ◌+◌, ◌<◌, List, length, map, find, is_some, Bool, nat_eq}
use Rattle.std.specs.List.{AllByRecursion}
use Rattle.je_instr.specs.declared.instr.Instr.{Instr}
use Rattle.je_instr.specs.declared.program.Handler.{Handler}
use Rattle.je_shape.specs.declared.slot.Shape.{Shape}
use Rattle.je_shape.specs.declared.slot.Slot.{Slot}
use Rattle.je_shape.specs.declared.slot.Slot.TheVariants.{Uninit}
use Rattle.je_splice.specs.Block.{Piece}
use Rattle.je_splice.specs.Marks.{Marks}
use Rattle.je_splice.specs.Put.{PutAt, PutBefore, marks_of}
use Rattle.je_put.specs.declared.block.Block.{Block}
use Rattle.je_put.specs.declared.block.EntryBlock.{EntryBlock}
use Rattle.je_put.specs.declared.block.PlaceBlock.{PlaceBlock}

abbrev pub piece_of : Block → Piece Instr Handler
piece_of b = record { code = b.instrs; handlers = b.handlers }

-- the place behind it can be reached, since something is known there
abbrev pub completes : Block → Bool
completes b = is_some (find (λ s. nat_eq s.0 (length b.instrs)) b.shapes)

abbrev pub put_at : PlaceBlock → PutAt Block
put_at p = record { at = p.at; removed = p.removed; jumps = p.jumps; piece = p.block }

-- it stands in the way of the handlers that catch the same class
abbrev pub put_before : EntryBlock → PutBefore Block Handler
put_before e = record {
  target = e.target;
  meets = λ h. nat_eq h.catch_const e.catch_const;
  piece = e.block;
}

-- what is put at each index
abbrev pub block_marks : List PlaceBlock → List EntryBlock → Marks Block Handler
block_marks places entries =
    marks_of (λ h. h.target) completes (map put_at places) (map put_before entries)

-- ---- what blocks know

-- what a `new` made: one of so many instructions of the block, or one of so many of the program
abbrev pub IsMadeWithin : ℕ → ℕ → Slot → Type 0
IsMadeWithin size count (Uninit k) = k < size + count
IsMadeWithin size count slot = Unit {0}

abbrev pub KnowsMade : ℕ → ℕ → ℕ × Shape → Type 0
KnowsMade size count known =
    AllByRecursion (IsMadeWithin size count) known.1.stack
    × AllByRecursion (IsMadeWithin size count) known.1.locals

-- each `new` of its shapes is one of its own or one of so many instructions of the program
abbrev pub BelongsTo : ℕ → Block → Type 0
BelongsTo count b = AllByRecursion (KnowsMade (length b.instrs) count) b.shapes
