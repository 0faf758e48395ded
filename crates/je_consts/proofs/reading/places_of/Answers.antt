use Rattle.std.proofs.Common.{arith}
use Rattle.std.proofs.lemmas.Result.{err_from_is_err_and}
use Rattle.je_consts.proofs.Loop.{goes_on, ends, is_done, is_cut}
use Rattle.je_consts.proofs.reading.places_of.Goals as goal

pub returns-in_err-place : goal.returns-in_err-place
returns-in_err-place c =
    let p = err_from_is_err_and c.from_residual-in_err-place.result c.from_residual-in_err-place.ensures.1 in
    rw (p.1, p.2) (ends c.loop-index.places.items c.loop-index.wide c.args.count c.loop-index.index c.args.bytes.now c.loop-index.next _ c.in_err-place.field-0.0 c.loop-index-test.true c.in_err-place.ensures c.loop-index.invariant)

pub loop-index-preserved : goal.loop-index-preserved
loop-index-preserved c =
    rw (c.in_ok-push.ensures.items, c.leads_second-wide.ensures) (goes_on c.loop-index.places.items c.loop-index.wide c.args.count c.loop-index.index c.args.bytes.now c.loop-index.next _ c.in_ok-place.place c.in_ok-place.after c.loop-index-test.true c.in_ok-place.ensures c.loop-index.invariant)

pub returns-then-wide : goal.returns-then-wide
returns-then-wide c =
    let so_far = rw c.if-wide.true at c.loop-index.invariant in
    is_cut c.loop-index.places.items c.args.count c.loop-index.index c.args.bytes.now c.loop-index.next _ (omega arith) so_far

pub returns : goal.returns
returns c =
    let so_far = rw c.if-wide.false at c.loop-index.invariant in
    is_done c.loop-index.places.items c.args.count c.loop-index.index c.args.bytes.now c.loop-index.next _ c.loop-index-test.false so_far
