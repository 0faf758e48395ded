use Rattle.std.proofs.Common.{drop, ◌≡◌, ◌++◌, filter}
use Rattle.je_instr.specs.declared.program.Handler.{Handler}
use Rattle.je_splice.specs.InstrCodes.{instr_codes, covers_some}
use Rattle.je_splice.specs.Layout.{own_from}
use Rattle.je_splice.specs.Marks.{Marks}
use Rattle.je_put.specs.declared.block.Block.{Block}
use Rattle.je_put.specs.Result.{pieces}
use Rattle.je_put.specs.Items.{items_seen}
use Rattle.je_put.proofs.handlers.own_of.Given as goal

abbrev pub invariant-loop-item : goal.invariant-loop-item
invariant-loop-item l = (m : Marks Block Handler)
    → l.own.items ++ filter covers_some (own_from instr_codes l.at (pieces (items_seen m (drop l.item-index l.items))))
    ≡ filter covers_some (own_from instr_codes 0 (pieces (items_seen m l.items)))
