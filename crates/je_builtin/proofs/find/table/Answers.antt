use Rattle.std.proofs.Common.{refl}
use Rattle.std.specs.Str.{chars}
use Rattle.je_builtin.specs.BuiltIns.{built_ins, class_lines}
use Rattle.je_builtin.proofs.FitLemmas.{built_ins_fit}
use Rattle.je_builtin.proofs.find.table.Goals as goal

pub returns : goal.returns
unfolding built_ins class_lines chars
returns c = record { rows = refl; fit = built_ins_fit }
