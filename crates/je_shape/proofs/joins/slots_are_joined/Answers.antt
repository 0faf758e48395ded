use Rattle.std.proofs.Common.{refl}
use Rattle.je_shape.proofs.JoinLemmas.{words_join, words_differ, references_join, word_reference, item_joins, no_item}
use Rattle.je_shape.proofs.joins.slots_are_joined.Goals as goal

pub returns-clause-same : goal.returns-clause-same
returns-clause-same c = λ w. words_join w w refl

pub returns-clause-differ : goal.returns-clause-differ
returns-clause-differ c = words_differ

pub returns-clause-references : goal.returns-clause-references
returns-clause-references c = references_join

pub returns-clause-apart : goal.returns-clause-apart
returns-clause-apart c = word_reference

pub returns-clause-kept : goal.returns-clause-kept
returns-clause-kept c = item_joins

pub returns-clause-lost : goal.returns-clause-lost
returns-clause-lost c = no_item
