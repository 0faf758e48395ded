use Rattle.std.proofs.Common.{eqb-true, eq-eqb}
use Rattle.je_base.proofs.TextLemmas.{IsModifiedUtf8-completes, completes-IsModifiedUtf8, completes_skipped, completes_turn, completes_on, completes_stops, completes_end}
use Rattle.je_base.proofs.text.is_modified_utf8.Goals as goal

pub loop-byte-init : goal.loop-byte-init
loop-byte-init c = completes_skipped c.args.bytes.now _ c.past_singles-left.ensures

pub returns-in-None : goal.returns-in-None
returns-in-None c =
    let bytes = c.args.bytes.now in
    let stops = completes_stops c.loop-byte.wanted c.in-Some.byte.now c.loop-byte.left.now c.in-Some.rest.now c.in-Some.ensures.cases.0 c.in-None.ensures.none in
    (λ e. absurd cc, λ text. absurd (stops (c.loop-byte.invariant.1 (completes-IsModifiedUtf8 bytes text))))

pub loop-byte-preserved : goal.loop-byte-preserved
loop-byte-preserved c =
    completes_turn c.loop-byte.wanted c.in-Some.byte.now c.in-Some-wanted_after.after c.args.bytes.now c.loop-byte.left.now c.in-Some.rest.now c.in-Some.ensures.cases.0 c.in-Some-wanted_after.ensures.some c.loop-byte.invariant

pub loop-byte-preserved-then-wanted-eq0 : goal.loop-byte-preserved-then-wanted-eq0
loop-byte-preserved-then-wanted-eq0 c =
    completes_on c.loop-byte.wanted c.in-Some.byte.now c.in-Some-wanted_after.after c.args.bytes.now c.loop-byte.left.now c.in-Some.rest.now _ c.in-Some.ensures.cases.0 c.in-Some-wanted_after.ensures.some c.if-wanted-eq0.true c.past_singles-left-then-wanted-eq0.ensures c.loop-byte.invariant

pub returns : goal.returns
returns c =
    let bytes = c.args.bytes.now in
    let ends = completes_end c.loop-byte.wanted c.loop-byte.left.now c.in_default.ensures.cases in (
      λ e. IsModifiedUtf8-completes bytes (c.loop-byte.invariant.0 (ends.1 (eqb-true _ _ e))),
      λ text. eq-eqb _ _ (ends.0 (c.loop-byte.invariant.1 (completes-IsModifiedUtf8 bytes text))),
    )
