use Rattle.std.proofs.Common.{◌∙◌, arith}
use Rattle.je_put.proofs.PartsLemmas.{places_more, places_past, length_set}
use Rattle.je_put.proofs.parts.add_places.Goals as goal

pub loop-place-preserved-in_ok-add_place : goal.loop-place-preserved-in_ok-add_place
loop-place-preserved-in_ok-add_place c = record {
  rows = λ i. places_more _ _ c.in-Some.place.now c.loop-place.table.items c.index_mut.result.now c.add_place.new.self c.in-Some.ensures.cases.0 (omega (arith, c.if-at-len.true, c.len.ensures, c.loop-place.table.ok.0)) c.index_mut.ensures.value c.in_ok-add_place.ensures i
      ∙ c.loop-place.invariant.rows i;
  long = length_set c.loop-place.table.items c.in-Some.place.now.at c.add_place.new.self ∙ c.loop-place.invariant.long;
}

pub loop-place-preserved : goal.loop-place-preserved
loop-place-preserved c = record {
  rows = λ i. places_past _ _ c.in-Some.place.now c.loop-place.table.items c.in-Some.ensures.cases.0 (omega (arith, c.if-at-len.false, c.len.ensures, c.loop-place.table.ok.0)) i
      ∙ c.loop-place.invariant.rows i;
  long = c.loop-place.invariant.long;
}
