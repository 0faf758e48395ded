use Rattle.je_instr.proofs.OperandLemmas.{int_is, float_is, string_is, class_is, long_is, double_is}
use Rattle.je_instr.proofs.OperandLemmas.{no_long, no_int}
use Rattle.je_instr.proofs.operands.loads_mean.Goals as goal

pub returns-clause-int : goal.returns-clause-int
returns-clause-int c = int_is

pub returns-clause-float : goal.returns-clause-float
returns-clause-float c = float_is

pub returns-clause-string : goal.returns-clause-string
returns-clause-string c = string_is

pub returns-clause-class : goal.returns-clause-class
returns-clause-class c = class_is

pub returns-clause-long : goal.returns-clause-long
returns-clause-long c = long_is

pub returns-clause-double : goal.returns-clause-double
returns-clause-double c = double_is

pub returns-clause-narrow : goal.returns-clause-narrow
returns-clause-narrow c = no_long

pub returns-clause-wide : goal.returns-clause-wide
returns-clause-wide c = no_int
