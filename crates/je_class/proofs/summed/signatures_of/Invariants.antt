use Rattle.std.proofs.Common.{take}
use Rattle.std.specs.List.{AllZip}
use Rattle.je_class.specs.Summed.{IsSignature}
use Rattle.je_class.proofs.summed.signatures_of.Given as goal

abbrev pub invariant-loop-member : goal.invariant-loop-member
invariant-loop-member l = AllZip (IsSignature l.consts) (take l.member-index l.members) l.signatures.items
