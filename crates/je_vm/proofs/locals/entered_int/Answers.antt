use Rattle.std.specs.Int.{w32}
use Rattle.std.proofs.lemmas.Int.{to_z-of_z}
use Rattle.je_value.proofs.AdmissionLemmas.{is_within}
use Rattle.je_vm.proofs.locals.entered_int.Goals as goal

pub returns : goal.returns
returns c = rw (← is_within w32 c.args.n c.ranges.n) (to_z-of_z w32 c.args.n c.ranges.n)
