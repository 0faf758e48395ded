use Rattle.std.proofs.Common.{◌↔◌, length}
use Rattle.je_base.proofs.TextLemmas.{Completes}
use Rattle.je_base.proofs.text.is_modified_utf8.Given as goal

abbrev pub invariant-loop-byte : goal.invariant-loop-byte
invariant-loop-byte l = Completes l.wanted l.left ↔ Completes 0 l.bytes

abbrev pub decreases-loop-byte : goal.decreases-loop-byte
decreases-loop-byte l = length l.left
