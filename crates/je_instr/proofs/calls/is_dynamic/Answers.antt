use Rattle.std.proofs.Common.{refl}
use Rattle.je_desc.specs.Descriptor.{units_of_params}
use Rattle.je_instr.proofs.calls.is_dynamic.Goals as goal

pub returns-in_default : goal.returns-in_default
returns-in_default c = (λ h. absurd cc, λ k. absurd (c.in_default.ensures.none (units_of_params k.0) (k.0, k.1.descriptor, refl)))
