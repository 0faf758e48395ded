use Rattle.std.proofs.Common.{◌≡◌, nat_eq, map, drop}
use Rattle.std.specs.List.{find, starts_with}
use Rattle.je_tokens.proofs.marks.first_of.Given as goal

abbrev pub invariant-loop-word : goal.invariant-loop-word
invariant-loop-word l =
    find (λ word. starts_with nat_eq l.text word) (map (λ word. word.now) l.words)
    ≡ find (λ word. starts_with nat_eq l.text word) (map (λ word. word.now) (drop l.word-index l.words))
