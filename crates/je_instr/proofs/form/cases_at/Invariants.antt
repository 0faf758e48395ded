use Rattle.std.proofs.Common.{◌≡◌, ◌+◌, ◌*◌, ◌-◌, ◌++◌}
use Rattle.je_instr.specs.Forms.{cases_at}
use Rattle.je_instr.proofs.form.cases_at.Given as goal

abbrev pub invariant-loop : goal.invariant-loop
invariant-loop l = record { next_is : l.next ≡ l.from + 8 * l.counter; all : l.cases.items ++ cases_at l.code l.at l.next (l.count - l.counter) ≡ cases_at l.code l.at l.from l.count }
