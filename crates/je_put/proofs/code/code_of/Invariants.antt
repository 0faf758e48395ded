use Rattle.std.proofs.Common.{drop, ◌≡◌, ◌++◌, ◌-◌, length}
use Rattle.std.specs.List.{AllByRecursion}
use Rattle.je_instr.specs.declared.program.Handler.{Handler}
use Rattle.je_splice.specs.InstrCodes.{instr_codes}
use Rattle.je_splice.specs.Layout.{moved_to, code_from, laid_code}
use Rattle.je_splice.specs.Marks.{Marks}
use Rattle.je_put.specs.declared.block.Block.{Block}
use Rattle.je_put.specs.Result.{pieces}
use Rattle.je_put.specs.Items.{items_seen}
use Rattle.je_put.specs.Tables.{begins_from, HasTargetsBelow, Lands}
use Rattle.je_put.proofs.code.code_of.Given as goal

abbrev pub invariant-loop-place : goal.invariant-loop-place
invariant-loop-place l = record {
  targets : AllByRecursion (HasTargetsBelow (length l.landing - 1)) (drop l.place l.items);
  whole : (m : Marks Block Handler) → l.begins ≡ begins_from 0 (pieces (items_seen m l.items))
      → Lands m (pieces (items_seen m l.items)) l.landing
      → l.code.items ++ code_from instr_codes (moved_to (pieces (items_seen m l.items))) l.place l.at (pieces (items_seen m (drop l.place l.items)))
      ≡ laid_code instr_codes (pieces (items_seen m l.items));
}
