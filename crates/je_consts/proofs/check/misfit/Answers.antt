use Rattle.std.proofs.Common.{refl, arith}
use Rattle.std.proofs.lemmas.Option.{slice_get_read}
use Rattle.je_consts.specs.Pool.{Names}
use Rattle.je_consts.proofs.Misfits.{holds_at, fails_at, below_next, all_by_indexes}
use Rattle.je_consts.proofs.check.misfit.Goals as goal

pub returns-then-not-place_names-clause-some : goal.returns-then-not-place_names-clause-some
returns-then-not-place_names-clause-some c =
    let places = c.args.places.now in
    let is = slice_get_read places _ c.loop-i.i c.index-places-i.result refl c.loop-i-test.true c.index-places-i.is in
    record {
      misfit = fails_at (Names places) places c.loop-i.i c.index-places-i.result is (λ h. absurd (cc (c.place_names.ensures.1 h)));
      before = c.loop-i.invariant;
    }

pub loop-i-preserved : goal.loop-i-preserved
loop-i-preserved c =
    let places = c.args.places.now in
    let is = slice_get_read places _ c.loop-i.i c.index-places-i.result refl c.loop-i-test.true c.index-places-i.is in
    below_next (Names places) places _ c.loop-i.invariant (holds_at (Names places) places c.loop-i.i c.index-places-i.result is (c.place_names.ensures.0 cc))

pub returns-clause-none : goal.returns-clause-none
returns-clause-none c =
    let places = c.args.places.now in
    all_by_indexes (Names places) places (λ i lt. c.loop-i.invariant i (omega arith))
