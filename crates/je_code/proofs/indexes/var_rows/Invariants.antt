use Rattle.std.proofs.Common.{◌≡◌, take}
use Rattle.je_code.specs.Rows.{var_rows}
use Rattle.je_code.proofs.indexes.var_rows.Given as goal

abbrev pub invariant-loop-info : goal.invariant-loop-info
invariant-loop-info l = l.rows.items ≡ var_rows l.offsets (take l.info-index l.infos)
