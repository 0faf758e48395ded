use Rattle.std.proofs.Common.{◌≡◌, ℕ, ◌<◌, Option, Some, None, length, get_or, take, sym, subst, ◌∙◌, rules, arith, false-eqb}
use Rattle.std.specs.Option.{IsSome, IfNone}
use Rattle.std.proofs.lemmas.Bool.{eqb-true}
use Rattle.je_session.specs.Tokens.{IsWordByte}
use Rattle.je_session.proofs.TokenLemmas.{Leads-first_mark, Leads-first_word, IsModifiedUtf8-front, no_tokens}
use Rattle.je_session.proofs.script.tokens.first_token.Goals as goal

pub returns-then-is_mark-clause-found : goal.returns-then-is_mark-clause-found
returns-then-is_mark-clause-found c =
    rw c.split_at.ensures.back (Leads-first_mark c.args.text.now c.requires.some (search rules))

-- no byte of a word is at the front
pub returns-then-is_empty-clause-none : goal.returns-then-is_empty-clause-none
returns-then-is_empty-clause-none c =
    λ _.
    let empty : length c.split_at-2.result.0.now ≡ 0 = eqb-true _ _ (sym c.if-is_empty.ensures) in
    let none : c.word_len.result ≡ 0 = omega arith in
    let no_word : IsWordByte (get_or c.args.text.now 0 0) → ⊥ = λ word. c.word_len.ensures.ends (omega (arith, c.requires.some)) (subst (λ (n : ℕ). IsWordByte (get_or c.args.text.now n 0)) (sym none) word) in
    no_tokens c.args.text.now c.requires.some c.requires.no_white (search rules) no_word

IsSome-unless : {X : Type 0} (o : Option X) (P : Type 0) → IfNone o (P → ⊥) → P → IsSome o
IsSome-unless (Some x) P none holds = search rules
IsSome-unless None P none holds = absurd (none holds)

pub unwrap-word-requires : goal.unwrap-word-requires
unwrap-word-requires c =
    let run = c.word_len.ensures in
    IsSome-unless _ _ c.in_ok-from_bytes.ensures.none (rw c.split_at-2.ensures.front (IsModifiedUtf8-front c.args.text.now c.word_len.result run.within run.before run.ends))

pub returns-clause-found : goal.returns-clause-found
returns-clause-found c =
    let run = c.word_len.ensures in
    let parts = c.split_at-2.ensures in
    let text = rw c.unwrap-word.ensures at c.in_ok-from_bytes.ensures.text in
    let word : c.unwrap-word.result ≡ take c.word_len.result c.args.text.now = text ∙ parts.front in
    let some : 0 < length (take c.word_len.result c.args.text.now) = rw (sym parts.front) (omega (arith, false-eqb _ 0 c.if-is_empty.ensures)) in
    rw (parts.back, word) (Leads-first_word c.args.text.now c.word_len.result run.within run.before run.ends some)
