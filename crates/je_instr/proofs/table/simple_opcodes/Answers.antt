use Rattle.std.proofs.Common.{refl}
use Rattle.je_instr.specs.Opcodes.{simple_operations}
use Rattle.je_instr.proofs.RowLemmas.{simple_is}
use Rattle.je_instr.proofs.table.simple_opcodes.Goals as goal

pub returns-clause-constants : goal.returns-clause-constants
unfolding simple_operations
returns-clause-constants c = refl

pub returns-clause-loads : goal.returns-clause-loads
unfolding simple_operations
returns-clause-loads c = refl

pub returns-clause-stores : goal.returns-clause-stores
unfolding simple_operations
returns-clause-stores c = refl

pub returns-clause-moves : goal.returns-clause-moves
unfolding simple_operations
returns-clause-moves c = refl

pub returns-clause-ints : goal.returns-clause-ints
unfolding simple_operations
returns-clause-ints c = refl

pub returns-clause-longs : goal.returns-clause-longs
unfolding simple_operations
returns-clause-longs c = refl

pub returns-clause-shifts : goal.returns-clause-shifts
unfolding simple_operations
returns-clause-shifts c = refl

pub returns-clause-whole : goal.returns-clause-whole
unfolding simple_operations
returns-clause-whole c = refl

pub returns-clause-floats : goal.returns-clause-floats
unfolding simple_operations
returns-clause-floats c = refl

pub returns-clause-doubles : goal.returns-clause-doubles
unfolding simple_operations
returns-clause-doubles c = refl

pub returns-clause-compared : goal.returns-clause-compared
unfolding simple_operations
returns-clause-compared c = refl

pub returns-clause-converted : goal.returns-clause-converted
unfolding simple_operations
returns-clause-converted c = refl

pub returns-clause-returns : goal.returns-clause-returns
unfolding simple_operations
returns-clause-returns c = refl

pub returns-clause-others : goal.returns-clause-others
unfolding simple_operations
returns-clause-others c = refl

pub returns-clause-which : goal.returns-clause-which
returns-clause-which c = simple_is
