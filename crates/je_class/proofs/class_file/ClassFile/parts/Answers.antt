use Rattle.std.proofs.Common.{subst}
use Rattle.je_class.specs.FileParts.{IsSound}
use Rattle.je_class.proofs.class_file.ClassFile.parts.Goals as goal

pub returns-clause-sound : goal.returns-clause-sound
returns-clause-sound c = subst IsSound c.self.view_is c.self.invariant
