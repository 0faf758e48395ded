use Rattle.std.proofs.Common.{refl, arith}
use Rattle.std.proofs.lemmas.Option.{slice_get_read}
use Rattle.je_consts.specs.declared.constant.Const.TheVariants.{Utf8}
use Rattle.je_consts.proofs.AddLemmas.{here_first, still_missing, const_within}
use Rattle.je_consts.proofs.adding.index_of_text.Goals as goal

pub returns-then-holds_text-clause-some : goal.returns-then-holds_text-clause-some
returns-then-holds_text-clause-some c =
    let places = c.args.places.now in
    let is = slice_get_read places _ c.loop-i.i c.index-places-i.result refl c.loop-i-test.true c.index-places-i.is in
    here_first places c.loop-i.i c.index-places-i.result (Utf8 c.args.text.now) is (c.holds_text.ensures.0 cc) c.loop-i.invariant

pub loop-i-preserved : goal.loop-i-preserved
loop-i-preserved c =
    let places = c.args.places.now in
    let is = slice_get_read places _ c.loop-i.i c.index-places-i.result refl c.loop-i-test.true c.index-places-i.is in
    still_missing places c.loop-i.i c.index-places-i.result (Utf8 c.args.text.now) is (λ h. absurd (cc (c.holds_text.ensures.1 h))) c.loop-i.invariant

pub returns-clause-none : goal.returns-clause-none
returns-clause-none c i h = c.loop-i.invariant i (omega (arith, const_within c.args.places.now i (Utf8 c.args.text.now) h)) h
