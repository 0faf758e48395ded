use Rattle.std.proofs.Common.{◌-◌, arith}
use Rattle.je_world.proofs.LeadsLemmas.{no_memory}
use Rattle.je_members.specs.declared.ending.Step.TheVariants.{Bad, Met, Into}
use Rattle.je_members.proofs.ChainLemmas.{begins, rises, rise_breaks, again, too_high, higher, at_top}
use Rattle.je_members.proofs.chain.chain.Goals as goal

pub loop-left-init : goal.loop-left-init
loop-left-init g c =
    begins (g.W.World.seen c.args.world.now) c.args.sought.now c.args.first c.new-classes.ensures

pub returns-then-is_among : goal.returns-then-is_among
returns-then-is_among g c =
    again c.args.sought.now c.loop-left.left c.loop-left.classes c.loop-left.name
    (cc (c.is_among.ensures, c.as_slice.ensures, c.if-is_among.true)) c.loop-left.invariant

pub returns-in-Ok-Bad : goal.returns-in-Ok-Bad
returns-in-Ok-Bad g c =
    rises c.args.sought.now c.loop-left.left (c.loop-left.left - 1) c.loop-left.classes
    c.loop-left.name (Bad c.in-Ok-Bad.bad) (omega (arith, c.loop-left-test.true))
    (cc (c.is_among.ensures, c.as_slice.ensures, c.if-is_among.false)) c.loop-left.invariant
    (rw c.in-Ok-Bad.field-0-is at c.in-Ok-Bad.ensures)

pub returns-in-Ok-Met : goal.returns-in-Ok-Met
returns-in-Ok-Met g c =
    rises c.args.sought.now c.loop-left.left (c.loop-left.left - 1) c.loop-left.classes
    c.loop-left.name (Met c.in-Ok-Met.name) (omega (arith, c.loop-left-test.true))
    (cc (c.is_among.ensures, c.as_slice.ensures, c.if-is_among.false)) c.loop-left.invariant
    (rw c.in-Ok-Met.field-0-is at c.in-Ok-Met.ensures)

pub returns-in-Err : goal.returns-in-Err
returns-in-Err g c =
    rise_breaks c.args.sought.now c.loop-left.left (c.loop-left.left - 1) c.loop-left.classes
    c.loop-left.name c.in-Err.why (omega (arith, c.loop-left-test.true))
    (cc (c.is_among.ensures, c.as_slice.ensures, c.if-is_among.false)) c.loop-left.invariant
    c.in-Err.ensures

pub returns-in-Err-push : goal.returns-in-Err-push
returns-in-Err-push g c =
    no_memory
    (rises c.args.sought.now c.loop-left.left (c.loop-left.left - 1) c.loop-left.classes
    c.loop-left.name (Into c.in-Ok-Into.kin) (omega (arith, c.loop-left-test.true))
    (cc (c.is_among.ensures, c.as_slice.ensures, c.if-is_among.false)) c.loop-left.invariant
    (rw c.in-Ok-Into.field-0-is at c.in-Ok-Into.ensures))

pub loop-left-preserved : goal.loop-left-preserved
loop-left-preserved g c =
    rw c.in-Ok.ensures.ok
    (higher c.args.sought.now (c.loop-left.left - 1) c.loop-left.classes
    c.loop-left.name c.in-Ok-Into.kin c.in-Some.above c.in-Some.is
    (rises c.args.sought.now c.loop-left.left (c.loop-left.left - 1) c.loop-left.classes
    c.loop-left.name (Into c.in-Ok-Into.kin) (omega (arith, c.loop-left-test.true))
    (cc (c.is_among.ensures, c.as_slice.ensures, c.if-is_among.false)) c.loop-left.invariant
    (rw c.in-Ok-Into.field-0-is at c.in-Ok-Into.ensures)))

pub returns-in-None : goal.returns-in-None
returns-in-None g c =
    rw c.in-Ok.ensures.ok
    (at_top c.args.sought.now (c.loop-left.left - 1) c.loop-left.classes
    c.loop-left.name c.in-Ok-Into.kin c.in-None.is
    (rises c.args.sought.now c.loop-left.left (c.loop-left.left - 1) c.loop-left.classes
    c.loop-left.name (Into c.in-Ok-Into.kin) (omega (arith, c.loop-left-test.true))
    (cc (c.is_among.ensures, c.as_slice.ensures, c.if-is_among.false)) c.loop-left.invariant
    (rw c.in-Ok-Into.field-0-is at c.in-Ok-Into.ensures)))

pub returns : goal.returns
returns g c =
    too_high c.args.sought.now c.loop-left.left c.loop-left.classes c.loop-left.name
    (omega (arith, c.loop-left-test.false)) c.loop-left.invariant
