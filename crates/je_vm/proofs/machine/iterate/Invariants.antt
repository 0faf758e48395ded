use Rattle.std.proofs.Common.{◌≡◌, ◌-◌}
use Rattle.je_machine.specs.Machine.{machine_step}
use Rattle.je_machine.specs.Step.{iterate, iterate_all}
use Rattle.je_vm.proofs.machine.iterate.Given as goal

-- the turns that are left come to what all come to
abbrev pub invariant-loop : goal.invariant-loop
invariant-loop l =
    iterate (machine_step l.program l.classes) (l.bound - l.counter) l.left l.here
    ≡ iterate_all (machine_step l.program l.classes) l.bound l.fn.state
