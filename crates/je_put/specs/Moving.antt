-- Serves private functions: where targets are moved.
use Rattle.std.specs.Prelude.{ℕ, ◌+◌, ◌<◌, length, slice_index}
use Rattle.std.specs.List.{AllByRecursion}
use Rattle.je_instr.specs.declared.instr.Case.{Case}
use Rattle.je_instr.specs.declared.instr.Instr.{Instr}
use Rattle.je_instr.specs.declared.instr.Instr.TheVariants as instr
use Rattle.je_put.specs.declared.redirect.To.{To}
use Rattle.je_put.specs.declared.redirect.To.TheVariants.{Table, Behind}

abbrev pub moved_by : To → ℕ → ℕ
moved_by (Table list) target = slice_index list.now target
moved_by (Behind at) target = at + target

abbrev pub IsKnownTo : To → ℕ → Type 0
IsKnownTo (Table list) target = target < length list.now
IsKnownTo (Behind at) target = Unit {0}

-- each target of the instruction is
abbrev pub AreKnownTo : To → Instr → Type 0
AreKnownTo to (instr.Branch opcode target) = IsKnownTo to target
AreKnownTo to (instr.Goto target) = IsKnownTo to target
AreKnownTo to (instr.TableSwitch low targets fallback) =
    AllByRecursion (IsKnownTo to) targets × IsKnownTo to fallback
AreKnownTo to (instr.LookupSwitch cases fallback) =
    AllByRecursion (λ (c : Case). IsKnownTo to c.target) cases × IsKnownTo to fallback
AreKnownTo to _ = Unit {0}
