use Rattle.std.proofs.Common.{◌≡◌, ℕ, ◌+◌, ◌≤◌, List, length}
use Rattle.je_desc.specs.Front.{ParamsFront}
use Rattle.je_desc.proofs.method.after_params.Given as goal

-- the parameters are those so far and those that are left
abbrev pub invariant-loop-rest : goal.invariant-loop-rest
invariant-loop-rest l = record {
  most : l.units ≤ 255;
  whole : (n : ℕ) (x : List ℕ) → ParamsFront l.rest n x → ParamsFront l.b (l.units + n) x;
  left : (m : ℕ) (x : List ℕ) → ParamsFront l.b m x → (n : ℕ) × (m ≡ l.units + n) × ParamsFront l.rest n x;
}

abbrev pub decreases-loop-rest : goal.decreases-loop-rest
decreases-loop-rest l = length l.rest
