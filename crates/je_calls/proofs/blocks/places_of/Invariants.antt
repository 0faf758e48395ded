use Rattle.std.proofs.Common.{◌≡◌, ◌++◌, length, map}
use Rattle.je_put.specs.Placing.{put_at}
use Rattle.je_splice.specs.Put.{replacements}
use Rattle.je_calls.specs.Blocks.{blocks_of}
use Rattle.je_calls.proofs.blocks.places_of.Given as goal

abbrev pub invariant-loop-instr : goal.invariant-loop-instr
invariant-loop-instr l = record {
  long : length l.left ≡ length l.rest;
  whole : map put_at l.places.items ++ replacements l.at (blocks_of l.rest l.left) ≡ replacements 0 (blocks_of l.instrs l.choices);
}

abbrev pub decreases-loop-instr : goal.decreases-loop-instr
decreases-loop-instr l = length l.rest
