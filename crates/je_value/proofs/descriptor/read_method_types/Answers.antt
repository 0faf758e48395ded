use Rattle.std.proofs.Common.{refl}
use Rattle.je_value.proofs.descriptor.read_method_types.Goals as goal

pub returns-in_default-clause-only : goal.returns-in_default-clause-only
returns-in_default-clause-only c = λ m spelled.
    absurd (cc (c.units.ensures.only _ (m, spelled, refl), c.in_default.is))
