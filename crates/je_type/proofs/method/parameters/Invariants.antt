use Rattle.std.proofs.Common.{length, map}
use Rattle.std.specs.List.{AllByRecursion}
use Rattle.je_desc.specs.Descriptor.{MethodTypes}
use Rattle.je_desc.specs.Types.{field_type_of}
use Rattle.je_type.specs.Texts.{HasText}
use Rattle.je_type.specs.Reading.{IsMethodRest, IsLeft}
use Rattle.je_type.proofs.method.parameters.Given as goal

-- of each method that the bytes spell, the parameters that were read and those that are left
abbrev pub invariant-loop-first : goal.invariant-loop-first
invariant-loop-first l = record {
  left : (m : MethodTypes) → IsMethodRest m l.fn.bytes → IsLeft m (map field_type_of l.params) l.left;
  form : AllByRecursion HasText (map field_type_of l.params);
}

abbrev pub decreases-loop-first : goal.decreases-loop-first
decreases-loop-first l = length l.left
