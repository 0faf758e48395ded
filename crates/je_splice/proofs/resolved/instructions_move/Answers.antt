use Rattle.je_splice.proofs.InstrLemmas.{resolves_moved, resolves_falls, entry_moved, entry_ranges}
use Rattle.je_splice.proofs.resolved.instructions_move.Goals as goal

pub returns-clause-operation : goal.returns-clause-operation
returns-clause-operation c = resolves_moved

pub returns-clause-falls : goal.returns-clause-falls
returns-clause-falls c = resolves_falls

pub returns-clause-entry : goal.returns-clause-entry
returns-clause-entry c = entry_moved

pub returns-clause-ranges : goal.returns-clause-ranges
returns-clause-ranges c = entry_ranges
