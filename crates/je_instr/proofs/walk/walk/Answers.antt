use Rattle.std.proofs.Common.{arith}
use Rattle.je_instr.proofs.EndLemmas.{form_within}
use Rattle.je_instr.proofs.FollowLemmas.{follow_more}
use Rattle.je_instr.proofs.walk.walk.Goals as goal

pub loop-at-smaller : goal.loop-at-smaller
loop-at-smaller c =
    let w = form_within c.args.code.now c.loop-at.at c.in_ok-instr.instr c.in_ok-instr.end c.in_ok-instr.ensures in
    let grows = w.grows in
    let within = w.within in
    omega arith

pub loop-at-preserved : goal.loop-at-preserved
loop-at-preserved c =
    let i = c.loop-at.invariant in
    let w = form_within c.args.code.now c.loop-at.at c.in_ok-instr.instr c.in_ok-instr.end c.in_ok-instr.ensures in
    rw (c.in_ok-push.ensures.items, c.in_ok-push-2.ensures.items)
    (record {
      follow = follow_more c.args.consts.now c.args.code.now 0 c.loop-at.located.items c.loop-at.starts.items c.loop-at.at c.in_ok-instr.instr c.in_ok-instr.end i.follow
          (record { form = c.in_ok-instr.ensures; allowed = c.is_allowed.ensures.0 c.if-not-is_allowed.false });
      within = w.within;
    })
