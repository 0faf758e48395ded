use Rattle.std.proofs.Common.{◌∙◌, sym}
use Rattle.std.specs.Str.{chars}
use Rattle.std.proofs.lemmas.Bool.{eqb-true}
use Rattle.je_tokens.specs.Tokens.{tokens_of}
use Rattle.je_tokens.proofs.CutLemmas.{begun, begun_fits}
use Rattle.je_tokens.proofs.SliceLemmas.{AreSlices-tokens, ended}
use Rattle.je_tokens.proofs.cut.tokens.Goals as goal

pub loop-rest-init : goal.loop-rest-init
loop-rest-init c = record {
  whole = begun (chars c.args.text.now) c.as_slice.result.now _ c.first_place-place.result (c.as_slice.ensures.value ∙ c.in-Ok.ensures.all) c.new-found.ensures.items c.first_place-place.ensures;
  fits = begun_fits c.as_slice.result.now c.in-Ok.characters.items c.first_place-place.result 18446744073709551616 c.as_slice.ensures.value c.first_place-place.ensures c.in-Ok.ensures.fits;
}

pub returns-clause-all : goal.returns-clause-all
returns-clause-all c =
    ended (tokens_of (chars c.args.text.now)) c.loop-rest.found.items c.loop-rest.rest.text.now c.loop-rest.rest.place c.loop-rest.rest.negative c.loop-rest.invariant.whole (eqb-true _ _ (sym c.loop-rest-test.ensures))

pub returns-clause-slices : goal.returns-clause-slices
returns-clause-slices c = AreSlices-tokens (chars c.args.text.now) c.loop-rest.found.items (returns-clause-all c)
