use Rattle.std.proofs.Common.{drop, ◌≡◌, ◌++◌, ◌-◌, length, slice_index}
use Rattle.std.specs.List.{AllByRecursion}
use Rattle.je_instr.specs.declared.program.Handler.{Handler}
use Rattle.je_splice.specs.Marks.{Marks}
use Rattle.je_put.specs.declared.block.Block.{Block}
use Rattle.je_put.specs.Result.{shapes_from}
use Rattle.je_put.specs.Items.{items_seen}
use Rattle.je_put.specs.Tables.{BelongBelow}
use Rattle.je_put.proofs.shapes.shapes_of.Given as goal

abbrev pub invariant-loop-item : goal.invariant-loop-item
invariant-loop-item l = record {
  belong : AllByRecursion (BelongBelow (length l.new_of - 1)) (drop l.item-index l.items);
  whole : (m : Marks Block Handler)
      → l.shapes.items ++ shapes_from (slice_index l.new_of) l.at (items_seen m (drop l.item-index l.items))
      ≡ shapes_from (slice_index l.new_of) 0 (items_seen m l.items);
}
