use Rattle.std.proofs.Common.{◌≡◌, ℕ, length}
use Rattle.je_instr.specs.Decoding.{Leads, IsFirstNowhere}
use Rattle.je_instr.proofs.ZipLemmas.{Reached}
use Rattle.je_instr.proofs.targets.all_resolved.Given as goal

abbrev pub invariant-loop-rest : goal.invariant-loop-rest
invariant-loop-rest l = record {
  reached : Reached (Leads l.starts) l.located l.rest l.instrs.items;
  long : length l.behind ≡ length l.rest;
  first : (at : ℕ) → IsFirstNowhere l.starts l.rest l.behind at → IsFirstNowhere l.starts l.located l.starts at;
}

abbrev pub decreases-loop-rest : goal.decreases-loop-rest
decreases-loop-rest l = length l.rest
