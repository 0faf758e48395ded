use Rattle.std.proofs.Common.{ℕ, List, [], ◌∷◌, Result, Ok, Err, inl, inr}
use Rattle.std.proofs.lemmas.Result.{err_from_is_err_and}
use Rattle.je_code.specs.Code.{IsCodeLength}
use Rattle.je_base.specs.Parts.{U4}
use Rattle.je_instr.specs.declared.fault.CodeFault.{CodeFault}
use Rattle.je_code.specs.Reading.{Comes, Reads, ReadsRun, bytecode_parts}
use Rattle.je_code.proofs.Comes.{or_memory, length_cut, run_behind}
use Rattle.je_code.proofs.numbers.bytecode_at.Goals as goal

bytecode_behind : {bytes : List ℕ} {at len mid : ℕ} (result : Result (List ℕ × ℕ) CodeFault) → Comes bytes at (U4 len (IsCodeLength len ∷ []) ∷ []) (Ok mid)
    → ReadsRun (λ x. x) bytes mid len result → Reads (λ x. x) bytes at bytecode_parts result
bytecode_behind (Ok x) counted run = run_behind (λ n. IsCodeLength n ∷ []) counted run.0 run.1
bytecode_behind (Err fault) counted (inl memory) = inl memory
bytecode_behind (Err fault) counted (inr (run, size, breaks)) = inr (run, run_behind (λ n. IsCodeLength n ∷ []) counted size breaks)

pub returns : goal.returns
returns c = bytecode_behind c.part_at.result c.in_ok-len.ensures.number c.part_at.ensures

pub returns-in_err-len : goal.returns-in_err-len
returns-in_err-len c =
    let p = err_from_is_err_and c.from_residual.result c.from_residual.ensures.1 in
    rw (p.1, p.2) (or_memory c.in_err-len.ensures.number (λ h. length_cut (λ n. IsCodeLength n ∷ []) h.1))
