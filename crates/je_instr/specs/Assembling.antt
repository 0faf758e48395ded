-- The code and the exception table that a program becomes (JVMS 4.7.3), or why it becomes none.
use Rattle.std.specs.Prelude.{◌≡◌, ℕ, ◌+◌, ◌-◌, ◌^◌, ◌<◌, ◌≤◌, ◌⊎◌, min, FitsSigned, List, [], ◌∷◌}
use Rattle.std.specs.Prelude.{length, map, slice_index, IsSome}
use Rattle.std.specs.Int.{w16}
use Rattle.std.specs.List.{AllByRecursion}
use Rattle.je_consts.specs.declared.place.Place.{Place}
use Rattle.je_desc.specs.Names.{IsClassName}
use Rattle.je_instr.specs.declared.assembled.Assembled.{Assembled}
use Rattle.je_instr.specs.declared.assembled.SizeFault.{SizeFault}
use Rattle.je_instr.specs.declared.assembled.SizeFault.TheVariants.{CodeTooLong, JumpTooFar}
use Rattle.je_instr.specs.declared.instr.Instr.{Instr}
use Rattle.je_instr.specs.declared.instr.Instr.TheVariants as instr
use Rattle.je_instr.specs.declared.program.Decoded.{Decoded}
use Rattle.je_instr.specs.declared.program.Handler.{Handler}
use Rattle.je_instr.specs.declared.program.Program.{Program}
use Rattle.je_instr.specs.declared.program.RawHandler.{RawHandler}
use Rattle.je_instr.specs.Allowed.{AreKeys, AreRising, IsClass, IsAllowed}
use Rattle.je_instr.specs.CodeProgram.{HasTargets}
use Rattle.je_instr.specs.Content.{Names}
use Rattle.je_instr.specs.Opcodes.{beside, simple_operation, local_operations, conditions}
use Rattle.je_instr.specs.Opcodes.{field_actions, sorts, array_types}
use Rattle.je_instr.specs.Shortest.{short_size, short_end, short_offsets, distance, short_code}

-- ---- programs

-- the operands are what they may be, as far as no constant decides it
abbrev pub IsInRange : Instr → Type 0
IsInRange (instr.Simple opcode) = IsSome (simple_operation opcode)
IsInRange (instr.IntPush n) = FitsSigned w16 n
IsInRange (instr.Local opcode slot) = IsSome (beside local_operations opcode)
IsInRange (instr.Branch opcode target) = IsSome (beside conditions opcode)
IsInRange (instr.TableSwitch low targets fallback) = AreKeys low (length targets)
IsInRange (instr.LookupSwitch cases fallback) = AreRising cases
IsInRange (instr.Field opcode index) = IsSome (beside field_actions opcode)
IsInRange (instr.Invoke opcode index) = IsSome (beside sorts opcode)
IsInRange (instr.NewArray code) = IsSome (beside array_types code)
IsInRange (instr.MultiNew index count) = 1 ≤ count
IsInRange _ = Unit {0}

-- a handler of some of so many instructions
pub record IsWithinProgram (count : ℕ) (h : Handler) : Type 0 where
  pub some : h.start < h.end
  pub within : h.end ≤ count
  pub target : h.target < count

-- Targets and starts are instructions, and an end is behind its start; and operands are in range.
pub record IsProgram (p : Program) : Type 0 where
  pub targets : AllByRecursion (HasTargets (length p.instrs)) p.instrs
  pub operands : AllByRecursion IsInRange p.instrs
  pub handlers : AllByRecursion (IsWithinProgram (length p.instrs)) p.handlers

-- the class that a handler catches is any, or one that is no array
abbrev pub IsCaught : List Place → Handler → Type 0
IsCaught consts h = (h.catch_const ≡ 0) ⊎ Names consts h.catch_const (IsClass IsClassName)

-- the constants allow the operands
pub record AllowsProgram (consts : List Place) (p : Program) : Type 0 where
  pub operands : AllByRecursion (IsAllowed consts) p.instrs
  pub caught : AllByRecursion (IsCaught consts) p.handlers

-- ---- distances

-- it jumps by more than two bytes can say
abbrev pub IsFar : List ℕ → ℕ → Instr → Type 0
IsFar offsets at (instr.Branch opcode target) = FitsSigned w16 (distance offsets at target) → ⊥
IsFar offsets at (instr.Goto target) = FitsSigned w16 (distance offsets at target) → ⊥
IsFar offsets at _ = ⊥

-- none of the instructions from an offset on does
abbrev pub AreNear : List ℕ → ℕ → List Instr → Type 0
AreNear offsets at [] = Unit {0}
AreNear offsets at (instr ∷ instrs) =
    (IsFar offsets at instr → ⊥) × AreNear offsets (at + short_size at instr) instrs

-- the first that does, by its index, from an index on
abbrev pub IsFirstFar : List ℕ → ℕ → List Instr → ℕ → ℕ → Type 0
IsFirstFar offsets at [] from index = ⊥
IsFirstFar offsets at (instr ∷ instrs) from index =
    (IsFar offsets at instr × (index ≡ from))
    ⊎ ((IsFar offsets at instr → ⊥)
    × IsFirstFar offsets (at + short_size at instr) instrs (from + 1) index)

-- ---- the whole

-- the entry with the offsets of its instructions
abbrev pub raw_handler : List ℕ → Handler → RawHandler
raw_handler offsets h = record {
  start = slice_index offsets h.start;
  end = slice_index offsets h.end;
  target = slice_index offsets h.target;
  catch_const = h.catch_const;
}

-- The program has at most 65,535 bytes in its shortest forms, and these are its bytes, its entries
-- and its offsets.
pub record IsAssembled (p : Program) (a : Assembled) : Type 0 where
  pub short : short_end 0 p.instrs < 2 ^ 16
  pub near : AreNear (short_offsets 0 p.instrs) 0 p.instrs
  pub offsets : a.offsets ≡ short_offsets 0 p.instrs
  pub code : a.code ≡ short_code (short_offsets 0 p.instrs) 0 p.instrs
  pub table : a.table ≡ map (raw_handler (short_offsets 0 p.instrs)) p.handlers

-- Why a program becomes no code: its length in bytes, which stands still at the greatest u32, or
-- the index of the first jump that is too far.
pub data IsSizeFault (p : Program) : SizeFault → Type 0 where
  too_long : 2 ^ 16 ≤ short_end 0 p.instrs
      → IsSizeFault p (CodeTooLong (min (short_end 0 p.instrs) (2 ^ 32 - 1)))
  too_far : (index : ℕ) → short_end 0 p.instrs < 2 ^ 16
      → IsFirstFar (short_offsets 0 p.instrs) 0 p.instrs 0 index
      → IsSizeFault p (JumpTooFar index)

-- the program at the offsets of its instructions
abbrev pub placed : Program → Assembled → Decoded
placed p a = record { program = p; offsets = a.offsets }
