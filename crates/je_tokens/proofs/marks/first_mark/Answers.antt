use Rattle.std.proofs.Common.{nat_eq, ap, ◌∙◌}
use Rattle.std.specs.List.{find, starts_with}
use Rattle.je_tokens.proofs.MarkLemmas.{marks_are, mark_within}
use Rattle.je_tokens.proofs.marks.first_mark.Goals as goal

pub returns-clause-found : goal.returns-clause-found
returns-clause-found c = c.first_of.ensures.found ∙ ap (find (λ mark. starts_with nat_eq c.args.text.now mark)) marks_are

pub returns-clause-within : goal.returns-clause-within
returns-clause-within c =
    mark_within c.args.text.now (λ mark. starts_with nat_eq c.args.text.now mark) c.first_of.result (returns-clause-found c) c.first_of.ensures.within
