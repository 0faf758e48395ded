use Rattle.std.proofs.Common.{◌≡◌}
use Rattle.je_base.specs.Encoding.{encoding}
use Rattle.je_base.proofs.encoding.encode_text.Given as goal

abbrev pub invariant-loop-c : goal.invariant-loop-c
invariant-loop-c l = l.bytes.items ≡ encoding l.yielded
