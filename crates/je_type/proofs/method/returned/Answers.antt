use Rattle.std.proofs.Common.{◌≡◌, [], ◌∷◌, Option, Some, sym, ap, subst, ◌∙◌, rules}
use Rattle.std.specs.Prelude.{IfSome}
use Rattle.je_desc.specs.FieldType.{FieldType}
use Rattle.je_type.specs.Texts.{HasText}
use Rattle.je_type.proofs.AnswerLemmas.{void_is, answer_is}
use Rattle.je_type.proofs.method.returned.Goals as goal

pub returns-then-eq-clause-reads : goal.returns-then-eq-clause-reads
returns-then-eq-clause-reads c = λ r is whole.
    let void : c.args.bytes.now ≡ 86 ∷ [] = search rules in void_is c.args.bytes.now r void whole

pub returns-in-Some-clause-reads : goal.returns-in-Some-clause-reads
returns-in-Some-clause-reads c = λ r is whole.
    let answer = answer_is c.args.bytes.now r (λ v. cc (rw v at c.eq.ensures, c.if-eq.false)) is whole in
    let read = rw c.in-Some.is at (c.in_ok-t.ensures.reads answer.type [] answer.front) in
    ap {A = FieldType} (λ t. Some t) read ∙ sym answer.is

pub returns-in-None-clause-reads : goal.returns-in-None-clause-reads
returns-in-None-clause-reads c = λ r is whole form.
    let answer = answer_is c.args.bytes.now r (λ v. cc (rw v at c.eq.ensures, c.if-eq.false)) is whole in
    let read = rw c.in-None.is at (c.in_ok-t.ensures.reads answer.type [] answer.front) in
    read (subst (λ (s : Option FieldType). IfSome s HasText) answer.is form)
