use Rattle.std.proofs.Common.{arith}
use Rattle.je_vm.proofs.ActingLemmas.{none}
use Rattle.je_vm.proofs.acting.int_of_length.Goals as goal

pub returns-in-Err : goal.returns-in-Err
returns-in-Err c = none c.args.length (grind (arith, c.in-Err.ensures))
