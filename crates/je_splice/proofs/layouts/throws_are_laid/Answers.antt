use Rattle.je_splice.proofs.LaidLemmas.{instruction_throws, piece_throws}
use Rattle.je_splice.proofs.layouts.throws_are_laid.Goals as goal

pub returns-clause-instructions : goal.returns-clause-instructions
returns-clause-instructions c = instruction_throws

pub returns-clause-pieces : goal.returns-clause-pieces
returns-clause-pieces c = piece_throws
