use Rattle.std.proofs.Common.{◌≡◌, ℕ, ◌+◌, suc, List, ◌++◌, length}
use Rattle.je_splice.specs.InstrCodes.{instr_codes}
use Rattle.je_splice.specs.Marks.{items_from, marked_items}
use Rattle.je_put.specs.declared.block.EntryBlock.{EntryBlock}
use Rattle.je_put.specs.declared.block.PlaceBlock.{PlaceBlock}
use Rattle.je_put.specs.Placing.{block_marks}
use Rattle.je_put.specs.Parts.{HasParts}
use Rattle.je_put.specs.Items.{items_seen}
use Rattle.je_put.specs.Tables.{HasTargetsBelow}
use Rattle.std.specs.List.{AllByRecursion}
use Rattle.je_instr.specs.CodeProgram.{HasTargets}
use Rattle.je_put.proofs.items.items_of.Given as goal

abbrev pub invariant-loop-instr : goal.invariant-loop-instr
invariant-loop-instr l = record {
  count : l.i + length l.rest ≡ length l.instrs;
  whole : (places : List PlaceBlock) (entries : List EntryBlock) → HasParts places entries (suc (length l.instrs)) l.table
      → items_seen (block_marks places entries) l.items.items ++ items_from instr_codes (block_marks places entries) l.i l.rest
      ≡ marked_items instr_codes (block_marks places entries) l.instrs;
  kept : (count : ℕ) → AllByRecursion (HasTargets count) l.instrs
      → AllByRecursion (HasTargets count) l.rest × AllByRecursion (HasTargetsBelow count) l.items.items;
}

abbrev pub decreases-loop-instr : goal.decreases-loop-instr
decreases-loop-instr l = length l.rest
