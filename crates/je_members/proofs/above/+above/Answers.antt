use Rattle.std.proofs.Common.{◌-◌, Some, None, arith}
use Rattle.je_world.specs.Search as search
use Rattle.je_world.proofs.LeadsLemmas.{no_memory, gives_on}
use Rattle.je_members.specs.declared.ending.Step.TheVariants.{Bad, Met, Into}
use Rattle.je_members.specs.Ending.{ended}
use Rattle.je_members.proofs.AboveLemmas.{gone_by, gone_breaks, all_gone, no_higher, ends_cycle, passed, pass_breaks}
use Rattle.je_members.proofs.above.+above.Goals as goal

pub above-returns-then-left-eq0 : goal.above-returns-then-left-eq0
above-returns-then-left-eq0 g t c =
    ends_cycle c.cycle.result c.cycle.ensures.end c.cycle.ensures.stop
    (no_higher c.args.sought.now c.args.left c.args.below.now c.loop-name.gone
    c.loop-name.waiting.now c.in-Some.name.now c.in-Some.rest.now
    (omega (arith, c.if-left-eq0.true)) c.in-Some.ensures.cases.0 c.loop-name.invariant)

pub above-returns-in-Ok-Bad : goal.above-returns-in-Ok-Bad
above-returns-in-Ok-Bad g t c =
    gone_by c.args.sought.now c.args.left (c.args.left - 1) c.args.below.now
    c.loop-name.gone c.loop-name.waiting.now c.in-Some.name.now c.in-Some.rest.now
    (search.Bad c.in-Ok-Bad.bad) (omega (arith, c.if-left-eq0.false)) c.in-Some.ensures.cases.0 c.loop-name.invariant
    (rw c.in-Ok-Bad.field-0-is at c.in-Ok-Bad.ensures)

pub above-returns-in-Ok-Met : goal.above-returns-in-Ok-Met
above-returns-in-Ok-Met g t c =
    gone_by c.args.sought.now c.args.left (c.args.left - 1) c.args.below.now
    c.loop-name.gone c.loop-name.waiting.now c.in-Some.name.now c.in-Some.rest.now
    (search.Decided c.in-Ok-Met.name) (omega (arith, c.if-left-eq0.false)) c.in-Some.ensures.cases.0 c.loop-name.invariant
    (rw c.in-Ok-Met.field-0-is at c.in-Ok-Met.ensures)

pub above-returns-in-Err : goal.above-returns-in-Err
above-returns-in-Err g t c =
    gone_breaks c.args.sought.now c.args.left (c.args.left - 1) c.args.below.now
    c.loop-name.gone c.loop-name.waiting.now c.in-Some.name.now c.in-Some.rest.now
    c.in-Err.why (omega (arith, c.if-left-eq0.false)) c.in-Some.ensures.cases.0 c.loop-name.invariant
    c.in-Err.ensures

pub above-loop-name-preserved : goal.above-loop-name-preserved
above-loop-name-preserved g t c =
    gone_by c.args.sought.now c.args.left (c.args.left - 1) c.args.below.now
    c.loop-name.gone c.loop-name.waiting.now c.in-Some.name.now c.in-Some.rest.now
    (search.Went c.in-Ok-Went.names) (omega (arith, c.if-left-eq0.false)) c.in-Some.ensures.cases.0 c.loop-name.invariant
    (rw c.in-Ok-Went.field-0-is at c.in-Ok-Went.ensures)

pub above-returns : goal.above-returns
above-returns g t c =
    all_gone c.args.sought.now c.args.left c.args.below.now c.loop-name.gone
    c.loop-name.waiting.now c.in_default.ensures.cases c.loop-name.invariant

pub pass-returns-in-Ok-None : goal.pass-returns-in-Ok-None
pass-returns-in-Ok-None g t c =
    passed c.args.sought.now c.args.left c.args.below.now c.args.so_far c.args.name.now
    None
    (rw c.as_slice.ensures at (rw c.in-Ok-None.field-0-is at c.in-Ok-None.ensures))

pub pass-returns-in-Ok-Some-Bad : goal.pass-returns-in-Ok-Some-Bad
pass-returns-in-Ok-Some-Bad g t c =
    passed c.args.sought.now c.args.left c.args.below.now c.args.so_far c.args.name.now
    (Some (Bad c.in-Ok-Some-Bad.bad))
    (rw c.as_slice.ensures at (rw (c.in-Ok-Some-Bad.field-0-is, c.in-Ok-Some-Bad.field-0-0-is) at c.in-Ok-Some-Bad.ensures))

pub pass-returns-in-Ok-Some-Met : goal.pass-returns-in-Ok-Some-Met
pass-returns-in-Ok-Some-Met g t c =
    passed c.args.sought.now c.args.left c.args.below.now c.args.so_far c.args.name.now
    (Some (Met c.in-Ok-Some-Met.name))
    (rw c.as_slice.ensures at (rw (c.in-Ok-Some-Met.field-0-is, c.in-Ok-Some-Met.field-0-0-is) at c.in-Ok-Some-Met.ensures))

pub pass-returns-in_default : goal.pass-returns-in_default
pass-returns-in_default g t c =
    no_memory (
    passed c.args.sought.now c.args.left c.args.below.now c.args.so_far c.args.name.now
    (Some (Into c.in-Ok-Some-Into.kin))
    (rw c.as_slice.ensures at (rw (c.in-Ok-Some-Into.field-0-is, c.in-Ok-Some-Into.field-0-0-is) at c.in-Ok-Some-Into.ensures)))

pub pass-returns-in_default-put_behind : goal.pass-returns-in_default-put_behind
pass-returns-in_default-put_behind g t c =
    no_memory (
    passed c.args.sought.now c.args.left c.args.below.now c.args.so_far c.args.name.now
    (Some (Into c.in-Ok-Some-Into.kin))
    (rw c.as_slice.ensures at (rw (c.in-Ok-Some-Into.field-0-is, c.in-Ok-Some-Into.field-0-0-is) at c.in-Ok-Some-Into.ensures)))

pub pass-returns-in-Ok-put_behind : goal.pass-returns-in-Ok-put_behind
pass-returns-in-Ok-put_behind g t c =
    gives_on (g.W.World.seen c.above.new.world) (ended c.above.result)
    (passed c.args.sought.now c.args.left c.args.below.now c.args.so_far c.args.name.now
    (Some (Into c.in-Ok-Some-Into.kin))
    (rw c.as_slice.ensures at (rw (c.in-Ok-Some-Into.field-0-is, c.in-Ok-Some-Into.field-0-0-is) at c.in-Ok-Some-Into.ensures)))
    (rw (
      c.as_slice-in-Ok-Some-Into.ensures,
      c.as_slice-up.ensures,
      c.in-Ok.ensures,
      c.in-Ok-put_behind.ensures,
    ) at c.above.ensures)

pub pass-returns-in-Err : goal.pass-returns-in-Err
pass-returns-in-Err g t c =
    pass_breaks c.args.sought.now c.args.left c.args.below.now c.args.so_far c.args.name.now
    c.in-Err.why (rw c.as_slice.ensures at c.in-Err.ensures)
