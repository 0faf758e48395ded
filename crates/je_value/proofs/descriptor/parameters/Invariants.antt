use Rattle.std.proofs.Common.{length}
use Rattle.je_desc.specs.Descriptor.{MethodTypes}
use Rattle.je_value.specs.Reading.{IsMethodRest, IsLeft}
use Rattle.je_value.proofs.descriptor.parameters.Given as goal

-- of each method that the bytes spell, the parameters that were read and those that are left
abbrev pub invariant-loop-first : goal.invariant-loop-first
invariant-loop-first l = (m : MethodTypes) → IsMethodRest m l.fn.bytes → IsLeft m l.params l.left

abbrev pub decreases-loop-first : goal.decreases-loop-first
decreases-loop-first l = length l.left
