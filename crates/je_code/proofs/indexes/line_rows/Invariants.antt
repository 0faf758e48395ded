use Rattle.std.proofs.Common.{◌≡◌, take}
use Rattle.je_code.specs.Rows.{line_rows}
use Rattle.je_code.proofs.indexes.line_rows.Given as goal

abbrev pub invariant-loop-info : goal.invariant-loop-info
invariant-loop-info l = l.rows.items ≡ line_rows l.offsets (take l.info-index l.infos)
