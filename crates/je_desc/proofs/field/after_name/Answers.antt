use Rattle.std.proofs.Common.{sym, ◌∙◌}
use Rattle.std.proofs.lemmas.List.{take_rest}
use Rattle.je_desc.proofs.NameFronts.{end_of-name, NameFront-end, end-NameFront}
use Rattle.je_desc.proofs.field.after_name.Goals as goal

pub returns-in_err-end-clause-only : goal.returns-in_err-end-clause-only
returns-in_err-end-clause-only c = λ x front. absurd (cc (end_of-name c.args.b.now x front, c.name_end.ensures, c.in_err-end.was))

pub returns-then-is_class_name-clause-some : goal.returns-then-is_class_name-clause-some
returns-then-is_class_name-clause-some c = rw take_rest (NameFront-end c.args.b.now c.in_ok-end.end (sym c.name_end.ensures ∙ c.in_ok-end.was) (c.is_class_name.ensures.0 c.if-is_class_name.true))

pub returns-then-is_class_name-clause-only : goal.returns-then-is_class_name-clause-only
returns-then-is_class_name-clause-only c = λ x front. rw take_rest (end-NameFront c.args.b.now x c.in_ok-end.end (sym c.name_end.ensures ∙ c.in_ok-end.was) front).1

pub returns-else-is_class_name-clause-only : goal.returns-else-is_class_name-clause-only
returns-else-is_class_name-clause-only c = λ x front. absurd (cc (c.is_class_name.ensures.1 (end-NameFront c.args.b.now x c.in_ok-end.end (sym c.name_end.ensures ∙ c.in_ok-end.was) front).0, c.if-is_class_name.false))
