use Rattle.std.proofs.Common.{◌≡◌, ◌-◌, ◌+◌, length}
use Rattle.je_machine.specs.Value.{Value}
use Rattle.je_machine.specs.Frame.{with_local}
use Rattle.je_vm.proofs.locals.with_slot.Given as goal

-- a write comes to the same
abbrev pub invariant-loop-all : goal.invariant-loop-all
invariant-loop-all l = (v : Value) → with_local l.all l.slot v ≡ with_local l.fn.locals l.slot v

abbrev pub decreases-loop-all : goal.decreases-loop-all
decreases-loop-all l = l.slot + 1 - length l.all
