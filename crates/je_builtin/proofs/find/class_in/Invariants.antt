use Rattle.std.proofs.Common.{◌≡◌, map, drop}
use Rattle.je_builtin.specs.BuiltIns.{class_named}
use Rattle.je_builtin.specs.Rows.{summary_of}
use Rattle.je_builtin.proofs.find.class_in.Given as goal

abbrev pub invariant-loop-row : goal.invariant-loop-row
invariant-loop-row l =
    class_named l.name (map summary_of (drop l.row-index l.rows))
    ≡ class_named l.name (map summary_of l.rows)
