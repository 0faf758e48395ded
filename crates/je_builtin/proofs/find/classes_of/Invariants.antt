use Rattle.std.proofs.Common.{◌≡◌, map, take}
use Rattle.je_builtin.specs.Rows.{summary_of}
use Rattle.je_builtin.proofs.find.classes_of.Given as goal

abbrev pub invariant-loop-row : goal.invariant-loop-row
invariant-loop-row l = l.classes.items ≡ map summary_of (take l.row-index l.rows)
