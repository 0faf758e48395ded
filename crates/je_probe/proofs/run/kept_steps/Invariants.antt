use Rattle.std.proofs.Common.{◌≡◌, ◌-◌}
use Rattle.je_machine.specs.Step.{iterate, iterate_all}
use Rattle.je_probe.specs.Kept.{kept_step}
use Rattle.je_probe.proofs.run.kept_steps.Given as goal

-- the turns that are left come to what all come to
abbrev pub invariant-loop : goal.invariant-loop
invariant-loop l =
    iterate (kept_step l.program l.classes) (l.bound - l.counter) l.left l.here
    ≡ iterate_all (kept_step l.program l.classes) l.bound l.fn.state
