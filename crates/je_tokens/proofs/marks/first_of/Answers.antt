use Rattle.std.proofs.Common.{List, ℕ, Bool, nat_eq, sym, ◌∙◌}
use Rattle.std.specs.List.{starts_with}
use Rattle.je_tokens.proofs.MarkLemmas.{find_on, find_here, find_end}
use Rattle.je_tokens.proofs.marks.first_of.Goals as goal

abbrev begun : List ℕ → List ℕ → Bool
begun text word = starts_with nat_eq text word

pub loop-word-preserved : goal.loop-word-preserved
loop-word-preserved c =
    c.loop-word.invariant
    ∙ find_on (λ word. word.now) (begun c.args.text.now) c.args.words.now c.loop-word.word-index _ c.loop-word-test.true (sym c.starts_with.ensures.value ∙ c.if-starts_with.false)

pub returns-then-starts_with-clause-found : goal.returns-then-starts_with-clause-found
returns-then-starts_with-clause-found c =
    sym (c.loop-word.invariant
    ∙ find_here (λ word. word.now) (begun c.args.text.now) c.args.words.now c.loop-word.word-index _ c.loop-word-test.true (sym c.starts_with.ensures.value ∙ c.if-starts_with.true))

pub returns-clause-found : goal.returns-clause-found
returns-clause-found c =
    sym (c.loop-word.invariant ∙ find_end (λ word. word.now) (begun c.args.text.now) c.args.words.now c.loop-word.word-index c.loop-word-test.false)
