use Rattle.std.proofs.Common.{◌≡◌, ◌∷◌, Some, rules, ◌∙◌, ap, sym}
use Rattle.je_desc.specs.Descriptor.{MethodTypes}
use Rattle.je_value.proofs.MethodLemmas.{goes, all_read, answered, step, same_types}
use Rattle.je_value.proofs.descriptor.parameters.Goals as goal

pub returns-in-Some-2 : goal.returns-in-Some-2
returns-in-Some-2 c = λ m rest.
    let bytes = c.loop-first.left.now in
    let split : bytes ≡ c.in-Some.first.now ∷ c.in-Some.rest.now = search rules in
    let left = c.loop-first.invariant m rest in
    let is = answered m _ bytes _ _ split left c.if-first-eq41.true rest.result in
    let all = all_read m _ bytes _ _ split left c.if-first-eq41.true in
    let r : c.in-Some-2.answer ≡ m.result = cc (c.in_ok-answer.ensures, c.in-Some-2.is, is) in
    ap {A = MethodTypes} (λ x. Some x)
    (same_types c.of.result m (c.of.ensures.params ∙ all) (c.of.ensures.answer ∙ r))

pub returns-in-None : goal.returns-in-None
returns-in-None c = λ m rest.
    let bytes = c.loop-first.left.now in
    let split : bytes ≡ c.in-Some.first.now ∷ c.in-Some.rest.now = search rules in
    let left = c.loop-first.invariant m rest in
    let is = answered m _ bytes _ _ split left c.if-first-eq41.true rest.result in
    absurd (cc (c.in_ok-answer.ensures, c.in-None.is, is))

pub loop-first-preserved : goal.loop-first-preserved
loop-first-preserved c = λ m rest.
    let bytes = c.loop-first.left.now in
    let split : bytes ≡ c.in-Some.first.now ∷ c.in-Some.rest.now = search rules in
    let g = goes m _ bytes _ _ split (c.loop-first.invariant m rest) c.if-first-eq41.false in
    let e = rw c.in-Some-3.is at c.in_ok-of.ensures.front in
    rw c.in_ok-push-in-Some-3.ensures.ok (step m _ bytes _ _ g (sym e))

pub returns-in-None-2 : goal.returns-in-None-2
returns-in-None-2 c = λ m rest.
    let bytes = c.loop-first.left.now in
    let split : bytes ≡ c.in-Some.first.now ∷ c.in-Some.rest.now = search rules in
    let g = goes m _ bytes _ _ split (c.loop-first.invariant m rest) c.if-first-eq41.false in
    let e = rw c.in-None-2.is at c.in_ok-of.ensures.front in
    absurd (cc (e, g.front))
