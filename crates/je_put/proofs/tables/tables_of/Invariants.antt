use Rattle.std.proofs.Common.{◌≡◌, List, length}
use Rattle.je_splice.specs.Layout.{moved_to}
use Rattle.je_splice.specs.Marks.{first_of, arrive, new_index}
use Rattle.je_put.specs.declared.block.EntryBlock.{EntryBlock}
use Rattle.je_put.specs.declared.block.PlaceBlock.{PlaceBlock}
use Rattle.je_put.specs.Placing.{block_marks}
use Rattle.je_put.specs.Parts.{HasParts}
use Rattle.je_put.specs.Result.{Lists}
use Rattle.je_put.specs.Tables.{Row, begins_from}
use Rattle.je_put.proofs.tables.tables_of.Given as goal

abbrev pub invariant-loop-i : goal.invariant-loop-i
invariant-loop-i l = record {
  firsts_long : length l.firsts.items ≡ l.i;
  landing_long : length l.landing.items ≡ l.i;
  new_of_long : length l.new_of.items ≡ l.i;
  found : (places : List PlaceBlock) (entries : List EntryBlock) (items : Row)
      → HasParts places entries (length l.table) l.table → l.begins ≡ begins_from 0 items
      → record {
        first : l.first ≡ first_of (block_marks places entries) l.i;
        firsts : Lists (first_of (block_marks places entries)) l.i l.firsts.items;
        landing : Lists (λ i. moved_to items (arrive (block_marks places entries) i)) l.i l.landing.items;
        new_of : Lists (new_index (block_marks places entries) items) l.i l.new_of.items;
      };
}
