use Rattle.std.proofs.Common.{◌∙◌, sym, ap}
use Rattle.je_vm.specs.Machine.{progress_in}
use Rattle.je_probe.proofs.RunLemmas.{went, stopped}
use Rattle.je_probe.proofs.run.kept_steps.Goals as goal

pub returns-in-Stops : goal.returns-in-Stops
returns-in-Stops c =
    stopped c.args.program.now c.args.classes.now c.args.bound c.loop.counter c.loop.left
    c.loop.here _ _ c.loop-test.true
    (sym (ap progress_in c.in-Stops.is) ∙ c.in_ok-less.ensures) c.loop.invariant

pub loop-preserved : goal.loop-preserved
loop-preserved c =
    went c.args.program.now c.args.classes.now c.args.bound c.loop.counter c.loop.left
    c.in-Goes.less c.loop.here c.in-Goes.next _ c.loop-test.true
    (sym (ap progress_in c.in-Goes.is) ∙ c.in_ok-less.ensures) c.loop.invariant
