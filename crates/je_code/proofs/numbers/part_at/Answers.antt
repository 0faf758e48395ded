use Rattle.std.proofs.Common.{inr}
use Rattle.je_code.proofs.Comes.{run_cut}
use Rattle.je_code.proofs.numbers.part_at.Goals as goal

pub returns-in-Err : goal.returns-in-Err
returns-in-Err c = inr (run_cut (rw c.as_slice.ensures at c.in-Err.ensures.cut))
