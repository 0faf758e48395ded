use Rattle.std.proofs.Common.{◌≡◌, ◌+◌, ◌*◌, ◌-◌, ◌++◌}
use Rattle.je_instr.specs.Forms.{targets_at}
use Rattle.je_instr.proofs.form.targets_at.Given as goal

abbrev pub invariant-loop : goal.invariant-loop
invariant-loop l = record { next_is : l.next ≡ l.from + 4 * l.counter; all : l.targets.items ++ targets_at l.code l.at l.next (l.count - l.counter) ≡ targets_at l.code l.at l.from l.count }
