use Rattle.std.proofs.Common.{inl, inr}
use Rattle.std.proofs.lemmas.Result.{err_from_is_err_and}
use Rattle.je_code.proofs.PutLemmas.{put_more, refused}
use Rattle.je_code.proofs.putting.put_attributes.Goals as goal

pub loop-named-preserved : goal.loop-named-preserved
loop-named-preserved c =
    let adds = c.in_ok-put_attribute.ensures.adds in
    put_more c.args.all.now c.args.consts.now c.args.out.now.items c.in-Some.named.now c.in-Some.tail.now c.loop-named.consts c.put_attribute.new.consts c.loop-named.out.items c.put_attribute.new.out.items c.loop-named.rest.now c.loop-named.invariant c.in-Some.ensures.cases.0 c.in_ok-put_attribute.ensures.put adds.0 adds.1 c.in_ok-put_attribute.ensures.keeps

pub returns-in_err-put_attribute-clause-refusal : goal.returns-in_err-put_attribute-clause-refusal
returns-in_err-put_attribute-clause-refusal c =
    let p = err_from_is_err_and c.from_residual.result c.from_residual.ensures.1 in
    rw (p.1, p.2) (elim c.in_err-put_attribute.ensures.refusal [
      | inl m ↦ inl m
      | inr a ↦ inr (refused c.args.all.now c.args.consts.now c.args.out.now.items c.in-Some.named.now c.in-Some.tail.now c.loop-named.consts c.put_attribute.new.consts c.loop-named.out.items c.put_attribute.new.out.items c.loop-named.rest.now c.loop-named.invariant c.in-Some.ensures.cases.0 _ a)
    ])
