use Rattle.std.proofs.Common.{refl}
use Rattle.je_put.proofs.shown.sample_is_spliced.Goals as goal

pub returns-clause-code : goal.returns-clause-code
returns-clause-code c = refl

pub returns-clause-handlers : goal.returns-clause-handlers
returns-clause-handlers c = refl

pub returns-clause-indexes : goal.returns-clause-indexes
returns-clause-indexes c = refl

pub returns-clause-shapes : goal.returns-clause-shapes
returns-clause-shapes c = refl
