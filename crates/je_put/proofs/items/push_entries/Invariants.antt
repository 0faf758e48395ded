use Rattle.std.proofs.Common.{drop, ◌≡◌, ℕ, ◌++◌, map}
use Rattle.je_instr.specs.declared.program.Handler.{Handler}
use Rattle.je_splice.specs.Marks.{Marks, entry_items}
use Rattle.je_put.specs.declared.block.Block.{Block}
use Rattle.je_put.specs.Placing.{completes}
use Rattle.je_put.specs.Items.{items_seen}
use Rattle.je_put.specs.Tables.{HasTargetsBelow}
use Rattle.std.specs.List.{AllByRecursion}
use Rattle.je_put.proofs.items.push_entries.Given as goal

abbrev pub invariant-loop-k : goal.invariant-loop-k
invariant-loop-k l = record {
  seen : (m : Marks Block Handler) → m.completes ≡ completes
      → items_seen m l.items.items ++ entry_items m l.passed (map (λ e. e.now.block) (drop l.k l.entries))
      ≡ items_seen m l.fn.items.items ++ entry_items m l.passed (map (λ e. e.now.block) l.entries);
  kept : (count : ℕ) → AllByRecursion (HasTargetsBelow count) l.fn.items.items → AllByRecursion (HasTargetsBelow count) l.items.items;
}
