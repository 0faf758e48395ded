use Rattle.std.proofs.Common.{ℕ, length}
use Rattle.je_instr.specs.Decoding.{IsEntry, IsFirstNoEntry}
use Rattle.je_instr.proofs.ZipLemmas.{Reached}
use Rattle.je_instr.proofs.entries.entries.Given as goal

abbrev pub invariant-loop-rest : goal.invariant-loop-rest
invariant-loop-rest l = record {
  reached : Reached (IsEntry l.consts l.starts l.size) l.table l.rest l.handlers.items;
  first : (index : ℕ) → IsFirstNoEntry l.consts l.starts l.size l.rest (length l.handlers.items) index → IsFirstNoEntry l.consts l.starts l.size l.table 0 index;
}

abbrev pub decreases-loop-rest : goal.decreases-loop-rest
decreases-loop-rest l = length l.rest
