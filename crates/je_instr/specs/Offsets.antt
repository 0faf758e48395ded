-- Serves private functions: offsets of code of at most 65,535 bytes, and widths of operands.
use Rattle.std.specs.Prelude.{ℕ, ◌^◌, ◌<◌, FitsSigned, List, slice_index}
use Rattle.std.specs.Int.{w16, w32}
use Rattle.std.specs.List.{AllByRecursion}
use Rattle.je_instr.specs.declared.instr.Case.{Case}
use Rattle.je_instr.specs.declared.instr.Instr.{Instr}
use Rattle.je_instr.specs.declared.instr.Instr.TheVariants as instr

abbrev pub AreShort : List ℕ → Type 0
AreShort offsets = (index : ℕ) → slice_index offsets index < 2 ^ 16

-- the operands but for targets fit their types
abbrev pub HasWidths : Instr → Type 0
HasWidths (instr.Ldc index) = index < 2 ^ 16
HasWidths (instr.Ldc2 index) = index < 2 ^ 16
HasWidths (instr.Local opcode slot) = slot < 2 ^ 16
HasWidths (instr.Iinc slot by) = (slot < 2 ^ 16) × FitsSigned w16 by
HasWidths (instr.TableSwitch low targets fallback) = FitsSigned w32 low
HasWidths (instr.LookupSwitch cases fallback) =
    AllByRecursion (λ (c : Case). FitsSigned w32 c.key) cases
HasWidths (instr.Field opcode index) = index < 2 ^ 16
HasWidths (instr.Invoke opcode index) = index < 2 ^ 16
HasWidths (instr.InvokeInterface index count) = index < 2 ^ 16
HasWidths (instr.InvokeDynamic index) = index < 2 ^ 16
HasWidths (instr.New index) = index < 2 ^ 16
HasWidths (instr.ANewArray index) = index < 2 ^ 16
HasWidths (instr.CheckCast index) = index < 2 ^ 16
HasWidths (instr.InstanceOf index) = index < 2 ^ 16
HasWidths (instr.MultiNew index count) = index < 2 ^ 16
HasWidths _ = Unit {0}
