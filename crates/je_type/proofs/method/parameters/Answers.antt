use Rattle.std.proofs.Common.{◌≡◌, ◌∷◌, rules}
use Rattle.je_type.proofs.AnswerLemmas.{goes, all_read, answered, step, pushed, all_more, first_text}
use Rattle.je_type.proofs.MethodLemmas.{same_types}
use Rattle.je_type.proofs.method.parameters.Goals as goal

pub returns-in-Some-2-clause-reads : goal.returns-in-Some-2-clause-reads
returns-in-Some-2-clause-reads c = λ m rest.
    let bytes = c.loop-first.left.now in
    let split : bytes ≡ c.in-Some.first.now ∷ c.in-Some.rest.now = search rules in
    let left = c.loop-first.invariant.left m rest in
    let all = all_read m _ bytes _ _ split left c.if-first-eq41.true in
    let is = answered m _ bytes _ _ split left c.if-first-eq41.true in
    let read = rw c.in-Some-2.is at (c.in_ok-result.ensures.reads m.result rest.result is) in
    same_types _ m all read

pub returns-in-None-clause-reads : goal.returns-in-None-clause-reads
returns-in-None-clause-reads c = λ m rest form.
    let bytes = c.loop-first.left.now in
    let split : bytes ≡ c.in-Some.first.now ∷ c.in-Some.rest.now = search rules in
    let left = c.loop-first.invariant.left m rest in
    let is = answered m _ bytes _ _ split left c.if-first-eq41.true in
    let read = rw c.in-None.is at (c.in_ok-result.ensures.reads m.result rest.result is) in
    read form.result

pub loop-first-preserved : goal.loop-first-preserved
loop-first-preserved c =
    let bytes = c.loop-first.left.now in
    let split : bytes ≡ c.in-Some.first.now ∷ c.in-Some.rest.now = search rules in
    let more = pushed c.loop-first.params c.push.new.self c.in-Some-3.param c.in_ok-push-in-Some-3.ensures.ok in
    record {
      left = λ m rest.
          let g = goes m _ bytes _ _ split (c.loop-first.invariant.left m rest) c.if-first-eq41.false in
          let read = rw c.in-Some-3.is at (c.in_ok-param.ensures.reads g.first _ g.front) in
          rw more (step m _ bytes _ _ g read.0 read.1);
      form = rw more (all_more _ _ c.loop-first.invariant.form (rw c.in-Some-3.is at c.in_ok-param.ensures.form));
    }

pub returns-in-None-2-clause-reads : goal.returns-in-None-2-clause-reads
returns-in-None-2-clause-reads c = λ m rest form.
    let bytes = c.loop-first.left.now in
    let split : bytes ≡ c.in-Some.first.now ∷ c.in-Some.rest.now = search rules in
    let g = goes m _ bytes _ _ split (c.loop-first.invariant.left m rest) c.if-first-eq41.false in
    let read = rw c.in-None-2.is at (c.in_ok-param.ensures.reads g.first _ g.front) in
    read (first_text m _ bytes g form.params)
