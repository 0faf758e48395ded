use Rattle.std.proofs.Common.{◌≡◌, ◌++◌, ◌-◌, List, length, map, filter}
use Rattle.std.specs.List.{AllByRecursion}
use Rattle.je_instr.specs.Assembling.{IsWithinProgram}
use Rattle.je_splice.specs.InstrCodes.{instr_codes, covers_some}
use Rattle.je_splice.specs.Layout.{own_from}
use Rattle.je_put.specs.declared.block.EntryBlock.{EntryBlock}
use Rattle.je_put.specs.declared.block.PlaceBlock.{PlaceBlock}
use Rattle.je_put.specs.Placing.{block_marks}
use Rattle.je_put.specs.Parts.{HasParts}
use Rattle.je_put.specs.Result.{pieces}
use Rattle.je_put.specs.Items.{items_seen}
use Rattle.je_put.specs.Tables.{begins_from, AreTables, moved_handler}
use Rattle.je_put.proofs.handlers.handlers_of.Given as goal

abbrev pub invariant-loop-handler : goal.invariant-loop-handler
invariant-loop-handler l = record {
  within : AllByRecursion (IsWithinProgram (length l.table - 1)) l.rest;
  whole : (places : List PlaceBlock) (entries : List EntryBlock)
      → HasParts places entries (length l.table) l.table
      → l.begins ≡ begins_from 0 (pieces (items_seen (block_marks places entries) l.items))
      → AreTables (block_marks places entries) (pieces (items_seen (block_marks places entries) l.items)) (length l.table) l.tables
      → l.all.items ++ filter covers_some (map (moved_handler (block_marks places entries) (pieces (items_seen (block_marks places entries) l.items))) l.rest)
      ≡ filter covers_some (own_from instr_codes 0 (pieces (items_seen (block_marks places entries) l.items)))
      ++ filter covers_some (map (moved_handler (block_marks places entries) (pieces (items_seen (block_marks places entries) l.items))) l.handlers);
}

abbrev pub decreases-loop-handler : goal.decreases-loop-handler
decreases-loop-handler l = length l.rest
