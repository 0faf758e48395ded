use Rattle.std.proofs.Common.{sym, subst}
use Rattle.je_class.specs.FileParts.{IsSound}
use Rattle.je_class.proofs.class_file.ClassFile.copy.Goals as goal

pub of_parts-requires : goal.of_parts-requires
of_parts-requires c = subst IsSound (sym c.in_ok-parts.ensures) c.self.invariant
