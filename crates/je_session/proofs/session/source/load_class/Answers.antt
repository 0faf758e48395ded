use Rattle.std.proofs.Common.{◌≢◌, Some, inl, inr, refl, ap, ◌∙◌}
use Rattle.je_session.specs.Cause.{WrongName, NotYetClass}
use Rattle.je_session.proofs.session.source.load_class.Goals as goal

pub returns-then-not-is_named-clause-stopped : goal.returns-then-not-is_named-clause-stopped
returns-then-not-is_named-clause-stopped c =
    let other : c.this_name.result.now ≢ c.args.script.now.class_name = λ same. let test = c.if-not-is_named.ensures.1 (c.this_name.ensures ∙ ap Some same) in absurd cc in
    inr (WrongName c.args.script.now.class_name c.this_name.result.now, (refl, other, c.in-Ok.class, record { short = c.in-Ok.ensures.within; bytes_are = c.in-Ok.ensures.found }, c.this_name.ensures), c.wrong_name.ensures)

pub returns-then-major-ne-MAJOR-clause-stopped : goal.returns-then-major-ne-MAJOR-clause-stopped
returns-then-major-ne-MAJOR-clause-stopped c =
    inr (NotYetClass, (c.in-Ok.class, record { short = c.in-Ok.ensures.within; bytes_are = c.in-Ok.ensures.found }, c.if-not-is_named.ensures.0 refl, inl (λ same. c.if-major-ne-MAJOR.true (c.major.ensures ∙ same))), inl c.not_yet_class.ensures)
