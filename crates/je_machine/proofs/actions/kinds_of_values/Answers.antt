use Rattle.std.specs.Int.{w32, w64}
use Rattle.je_machine.proofs.OutsideLemmas.{admit_same, admit_wrong, admit_is_of_kind}
use Rattle.je_machine.proofs.KindLemmas.{fits_by, by_fits}
use Rattle.je_machine.proofs.actions.kinds_of_values.Goals as goal

pub returns-clause-right : goal.returns-clause-right
returns-clause-right c = admit_same

pub returns-clause-wrong : goal.returns-clause-wrong
returns-clause-wrong c = admit_wrong

pub returns-clause-admitted : goal.returns-clause-admitted
returns-clause-admitted c = admit_is_of_kind

pub returns-clause-ints : goal.returns-clause-ints
returns-clause-ints c = λ n. (fits_by w32 n, by_fits w32 n)

pub returns-clause-longs : goal.returns-clause-longs
returns-clause-longs c = λ n. (fits_by w64 n, by_fits w64 n)
