use Rattle.std.proofs.Common.{ℕ, ◌≤◌, ◌↔◌, List, length}
use Rattle.je_desc.specs.Front.{FieldFront}
use Rattle.je_desc.proofs.field.after_field.Given as goal

-- what comes after the descriptor comes after what is left of it
abbrev pub invariant-loop-rest : goal.invariant-loop-rest
invariant-loop-rest l = record {
  most : l.dimensions ≤ 255;
  left : (x : List ℕ) → FieldFront l.dimensions l.rest x ↔ FieldFront 0 l.b x;
}

abbrev pub decreases-loop-rest : goal.decreases-loop-rest
decreases-loop-rest l = length l.rest
