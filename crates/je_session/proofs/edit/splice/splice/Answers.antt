use Rattle.std.proofs.Common.{arith, refl, ap, ◌∙◌, length, length-append, inl, inr, ⊎_elim}
use Rattle.std.specs.Prelude.{[], ◌∷◌}
use Rattle.std.specs.Iterator.Adapters.{zip_first, zip_second}
use Rattle.std.specs.Slice.Iter.{iter_rest}
use Rattle.je_session.specs.Splice.{new_instrs}
use Rattle.je_session.proofs.SpliceLemmas.{splice_more, splice_end, new_instrs-one, places_more, places_end}
use Rattle.je_session.proofs.edit.splice.splice.Goals as goal

pub loop-instr-init : goal.loop-instr-init
loop-instr-init c =
    let same = c.into_iter-instr-iterator.ensures.into_iter_gives in
    let instrs_are = ap iter_rest c.zip-instr-items.ensures.first ∙ c.iter.ensures.rest in
    let chosen_is = c.zip-instr-items.ensures.second.0 in
    rw (same, instrs_are, chosen_is, c.new-out.ensures.items, c.new-new_of.ensures.items) (record { same_length = c.requires.each; few = omega (arith, c.requires.few); whole = refl; places = refl })

pub loop-instr-preserved : goal.loop-instr-preserved
loop-instr-preserved c =
    let steps = c.in-Some.ensures.steps in
    let before = c.loop-instr.invariant in
    let choice = c.in-Some.choice.now in
    let instr = c.in-Some.instr.now in
    let put = c.in_ok-put.ensures in
    let one = ap length put ∙ length-append c.loop-instr.out.items (new_instrs (choice ∷ []) (instr ∷ [])) in
    record {
      same_length = omega (arith, before.same_length, ap length steps.0, ap length steps.1);
      few = omega (arith, before.few, one, new_instrs-one choice instr, ap length steps.0);
      whole = splice_more c.loop-instr.out.items _ choice _ _ instr _ _ _ steps.0 steps.1 put before.whole;
      places = places_more c.loop-instr.out.items _ c.loop-instr.new_of.items _ _ choice _ _ instr _ _ _ steps.0 steps.1 put (c.len.ensures ∙ c.loop-instr.out.ok.0) c.in_ok-push.ensures.items before.places;
    }

pub returns-clause-instrs : goal.returns-clause-instrs
returns-clause-instrs c =
    splice_end c.loop-instr.out.items _ (iter_rest (zip_second c.loop-instr.instr-iterator)) (iter_rest (zip_first c.loop-instr.instr-iterator)) c.loop-instr.invariant.same_length
    (⊎_elim (λ a. inl a.1.0) (λ b. inr b.1.0) c.in-None.ensures.steps) c.loop-instr.invariant.whole

pub returns-clause-places : goal.returns-clause-places
returns-clause-places c =
    places_end c.loop-instr.out.items c.loop-instr.new_of.items _ _ _ (iter_rest (zip_second c.loop-instr.instr-iterator)) (iter_rest (zip_first c.loop-instr.instr-iterator)) c.loop-instr.invariant.same_length
    (⊎_elim (λ a. inl a.1.0) (λ b. inr b.1.0) c.in-None.ensures.steps) (c.len-2.ensures ∙ c.loop-instr.out.ok.0) c.in_ok-push-2.ensures.items c.loop-instr.invariant.places
