use Rattle.std.proofs.Common.{◌≡◌, map, take}
use Rattle.je_builtin.specs.Rows.{signature_of}
use Rattle.je_builtin.proofs.made.signatures.Given as goal

abbrev pub invariant-loop-member : goal.invariant-loop-member
invariant-loop-member l = l.signatures.items ≡ map signature_of (take l.member-index l.members)
