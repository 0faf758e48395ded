use Rattle.std.proofs.Common.{refl}
use Rattle.je_splice.proofs.LoopCodeLemmas.{loop_is, marks_are, spliced_is, only_spliced}
use Rattle.je_splice.proofs.shown.loop_code_is_spliced.Goals as goal

pub returns-clause-program : goal.returns-clause-program
returns-clause-program c = loop_is

pub returns-clause-marks : goal.returns-clause-marks
returns-clause-marks c = marks_are

pub returns-clause-code : goal.returns-clause-code
returns-clause-code c = refl

pub returns-clause-table : goal.returns-clause-table
returns-clause-table c = refl

pub returns-clause-spliced : goal.returns-clause-spliced
returns-clause-spliced c = spliced_is

pub returns-clause-only : goal.returns-clause-only
returns-clause-only c = only_spliced
