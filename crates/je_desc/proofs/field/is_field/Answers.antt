use Rattle.std.proofs.Common.{[], length, sym, ap, ◌∙◌, eqb-true, eq-eqb}
use Rattle.je_desc.proofs.Descriptors.{field_of-front, front_of-field}
use Rattle.je_desc.proofs.field.is_field.Goals as goal

pub returns-in-Some : goal.returns-in-Some
returns-in-Some c = (
  λ e. field_of-front c.args.b.now c.in-Some.rest.now (eqb-true _ _ (sym c.is_empty.ensures ∙ e)) c.in-Some.ensures.some,
  λ field. c.is_empty.ensures ∙ eq-eqb _ _ (ap length (c.in-Some.ensures.only [] (front_of-field c.args.b.now field))),
)

pub returns-in-None : goal.returns-in-None
returns-in-None c = (λ e. absurd cc, λ field. absurd (c.in-None.ensures.only [] (front_of-field c.args.b.now field)))
