use Rattle.std.proofs.Common.{drop, ◌≡◌, ℕ, ◌++◌, map}
use Rattle.je_instr.specs.declared.program.Handler.{Handler}
use Rattle.je_splice.specs.Layout as layout
use Rattle.je_splice.specs.Marks.{Marks}
use Rattle.je_put.specs.declared.block.Block.{Block}
use Rattle.je_put.specs.Items.{items_seen}
use Rattle.je_put.specs.Tables.{HasTargetsBelow}
use Rattle.std.specs.List.{AllByRecursion}
use Rattle.je_put.proofs.items.push_blocks.Given as goal

abbrev pub invariant-loop-block : goal.invariant-loop-block
invariant-loop-block l = record {
  seen : (m : Marks Block Handler)
      → items_seen m l.items.items ++ map (λ b. layout.Puts 0 b.now) (drop l.block-index l.blocks)
      ≡ items_seen m l.fn.items.items ++ map (λ b. layout.Puts 0 b.now) l.blocks;
  kept : (count : ℕ) → AllByRecursion (HasTargetsBelow count) l.fn.items.items → AllByRecursion (HasTargetsBelow count) l.items.items;
}
