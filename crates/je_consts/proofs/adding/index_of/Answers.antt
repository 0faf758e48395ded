use Rattle.std.proofs.Common.{refl, arith}
use Rattle.std.proofs.lemmas.Option.{slice_get_read}
use Rattle.je_consts.proofs.AddLemmas.{here_first, still_missing, const_within}
use Rattle.je_consts.proofs.adding.index_of.Goals as goal

pub returns-then-holds-clause-some : goal.returns-then-holds-clause-some
returns-then-holds-clause-some c =
    let places = c.args.places.now in
    let is = slice_get_read places _ c.loop-i.i c.index-places-i.result refl c.loop-i-test.true c.index-places-i.is in
    here_first places c.loop-i.i c.index-places-i.result c.args.entry.now is (c.holds.ensures.0 cc) c.loop-i.invariant

pub loop-i-preserved : goal.loop-i-preserved
loop-i-preserved c =
    let places = c.args.places.now in
    let is = slice_get_read places _ c.loop-i.i c.index-places-i.result refl c.loop-i-test.true c.index-places-i.is in
    still_missing places c.loop-i.i c.index-places-i.result c.args.entry.now is (λ h. absurd (cc (c.holds.ensures.1 h))) c.loop-i.invariant

pub returns-clause-none : goal.returns-clause-none
returns-clause-none c i h = c.loop-i.invariant i (omega (arith, const_within c.args.places.now i c.args.entry.now h)) h
