use Rattle.std.proofs.Common.{refl}
use Rattle.je_desc.specs.Descriptor.{units_of_params}
use Rattle.je_instr.proofs.calls.method_units.Goals as goal

pub returns-in_default-clause-none : goal.returns-in_default-clause-none
returns-in_default-clause-none c m h = c.in_default.ensures.none (units_of_params m) (m, h.descriptor, refl)
