use Rattle.std.proofs.Common.{drop, ◌≡◌, ◌++◌}
use Rattle.je_instr.specs.declared.program.Handler.{Handler}
use Rattle.je_splice.specs.Marks.{Marks}
use Rattle.je_put.specs.declared.block.Block.{Block}
use Rattle.je_put.specs.Result.{pieces}
use Rattle.je_put.specs.Items.{items_seen}
use Rattle.je_put.specs.Tables.{begins_from}
use Rattle.je_put.proofs.tables.begins_of.Given as goal

abbrev pub invariant-loop-item : goal.invariant-loop-item
invariant-loop-item l = (m : Marks Block Handler)
    → l.begins.items ++ begins_from l.at (pieces (items_seen m (drop l.item-index l.items))) ≡ begins_from 0 (pieces (items_seen m l.items))
