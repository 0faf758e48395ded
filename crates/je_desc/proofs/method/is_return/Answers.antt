use Rattle.std.proofs.Common.{inl, inr}
use Rattle.je_desc.proofs.Descriptors.{of-return, return-field}
use Rattle.je_desc.proofs.method.is_return.Goals as goal

pub returns-else-eq : goal.returns-else-eq
returns-else-eq c = (
  λ e. return-field c.args.b.now (c.is_field.ensures.0 e),
  λ r. elim (of-return c.args.b.now r) [
    | inl v ↦ absurd (cc (rw v at c.eq.ensures, c.if-eq.false))
    | inr field ↦ c.is_field.ensures.1 field
  ],
)
