use Rattle.std.proofs.Common.{length}
use Rattle.std.specs.String.{string_bytes}
use Rattle.je_base.proofs.EncodingLemmas.{Reads}
use Rattle.je_base.proofs.encoding.decode_text.Given as goal

abbrev pub invariant-loop-c : goal.invariant-loop-c
invariant-loop-c l = Reads l.b (string_bytes l.string) l.left

abbrev pub decreases-loop-c : goal.decreases-loop-c
decreases-loop-c l = length l.left
