use Rattle.std.proofs.Common.{length}
use Rattle.je_type.proofs.field.+type_front.Given as goal

abbrev pub decreases-type_front : goal.decreases-type_front
decreases-type_front l = length l.bytes.now
