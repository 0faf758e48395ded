use Rattle.std.proofs.Common.{◌≡◌, ◌++◌, ◌↔◌, length}
use Rattle.je_calls.specs.Choices.{choices_by, AreReplaceable}
use Rattle.je_calls.proofs.choose.choices_of.Given as goal

abbrev pub invariant-loop-operation : goal.invariant-loop-operation
invariant-loop-operation l = record {
  long : length l.shapes ≡ length l.rest;
  whole : l.choices.items ++ choices_by l.rules l.shapes l.rest ≡ choices_by l.rules l.list l.operations;
  form : AreReplaceable l.rules l.shapes l.rest ↔ AreReplaceable l.rules l.list l.operations;
}

abbrev pub decreases-loop-operation : goal.decreases-loop-operation
decreases-loop-operation l = length l.rest
