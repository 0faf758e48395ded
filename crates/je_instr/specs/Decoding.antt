-- The program that code and its exception table are (JVMS 4.7.3 and 4.9.1), or the first test that
-- fails.
use Rattle.std.specs.Prelude.{◌≡◌, ℕ, ◌+◌, ◌<◌, ◌⊎◌, List, [], ◌∷◌, ◌++◌, length, Some, Ok, Err}
use Rattle.std.specs.Prelude.{slice_get}
use Rattle.std.specs.List.{AllZip}
use Rattle.je_consts.specs.declared.place.Place.{Place}
use Rattle.je_desc.specs.Names.{IsClassName}
use Rattle.je_instr.specs.declared.fault.CodeFault.{CodeFault}
use Rattle.je_instr.specs.declared.fault.CodeFault.TheVariants.{BadOperand, BadTarget, BadRange}
use Rattle.je_instr.specs.declared.instr.Case.{Case}
use Rattle.je_instr.specs.declared.instr.Instr.{Instr}
use Rattle.je_instr.specs.declared.instr.Instr.TheVariants.{Branch, Goto, TableSwitch, LookupSwitch}
use Rattle.je_instr.specs.declared.program.Decoded.{Decoded}
use Rattle.je_instr.specs.declared.program.Handler.{Handler}
use Rattle.je_instr.specs.declared.program.RawHandler.{RawHandler}
use Rattle.je_instr.specs.Allowed.{IsClass, IsAllowed}
use Rattle.je_instr.specs.Content.{Names}
use Rattle.je_instr.specs.Forms.{form_at}

-- ---- instructions at their offsets

-- an instruction with offsets as targets stands from one offset up to another
pub record Stands (consts : List Place) (code : List ℕ) (at : ℕ) (instr : Instr) (end : ℕ)
    : Type 0 where
  pub form : form_at code at ≡ Ok (instr, end)
  pub allowed : IsAllowed consts instr

-- Instructions stand one behind the other from an offset on, and begin at these offsets.
abbrev pub Follow : List Place → List ℕ → ℕ → List Instr → List ℕ → ℕ → Type 0
Follow consts code at [] [] end = end ≡ at
Follow consts code at (instr ∷ instrs) (start ∷ starts) end =
    (start ≡ at) × (next : ℕ) × Stands consts code at instr next
    × Follow consts code next instrs starts end
Follow consts code at _ _ end = ⊥

-- why no instruction stands at an offset
abbrev pub IsStop : List Place → List ℕ → ℕ → CodeFault → Type 0
IsStop consts code at fault =
    (form_at code at ≡ Err fault)
    ⊎ ((instr : Instr) × (end : ℕ) × (form_at code at ≡ Ok (instr, end))
    × (IsAllowed consts instr → ⊥) × (fault ≡ BadOperand at))

-- ---- targets

-- the instruction of an index begins at an offset
abbrev pub Begins : List ℕ → ℕ → ℕ → Type 0
Begins starts offset index = slice_get starts index ≡ Some offset

abbrev pub BeginsCase : List ℕ → Case → Case → Type 0
BeginsCase starts located c = (c.key ≡ located.key) × Begins starts located.target c.target

-- the instruction with indexes in the place of offsets
abbrev pub Leads : List ℕ → Instr → Instr → Type 0
Leads starts (Branch opcode offset) instr =
    (target : ℕ) × Begins starts offset target × (instr ≡ Branch opcode target)
Leads starts (Goto offset) instr =
    (target : ℕ) × Begins starts offset target × (instr ≡ Goto target)
Leads starts (TableSwitch low offsets offset) instr =
    (targets : List ℕ) × (fallback : ℕ) × AllZip (Begins starts) offsets targets
    × Begins starts offset fallback × (instr ≡ TableSwitch low targets fallback)
Leads starts (LookupSwitch located offset) instr =
    (cases : List Case) × (fallback : ℕ) × AllZip (BeginsCase starts) located cases
    × Begins starts offset fallback × (instr ≡ LookupSwitch cases fallback)
Leads starts located instr = instr ≡ located

-- it leads to where no instruction begins
abbrev pub LeadsNowhere : List ℕ → Instr → Type 0
LeadsNowhere starts located = (instr : Instr) → Leads starts located instr → ⊥

-- the first instruction that leads to where none begins, by the offset at which it begins
abbrev pub IsFirstNowhere : List ℕ → List Instr → List ℕ → ℕ → Type 0
IsFirstNowhere starts (located ∷ instrs) (start ∷ behind) at =
    (LeadsNowhere starts located × (at ≡ start))
    ⊎ ((instr : Instr) × Leads starts located instr × IsFirstNowhere starts instrs behind at)
IsFirstNowhere starts _ _ at = ⊥

-- ---- the exception table

-- An entry with indexes in the place of offsets. The range ends where an instruction begins or
-- where the code ends; the class is 0 for all, or one that is no array.
pub record IsEntry (consts : List Place) (starts : List ℕ) (size : ℕ) (raw : RawHandler)
    (handler : Handler) : Type 0 where
  pub start : Begins starts raw.start handler.start
  pub end : Begins (starts ++ size ∷ []) raw.end handler.end
  pub target : Begins starts raw.target handler.target
  pub some : raw.start < raw.end
  pub catch_const : handler.catch_const ≡ raw.catch_const
  pub class : (raw.catch_const ≡ 0) ⊎ Names consts raw.catch_const (IsClass IsClassName)

-- the first entry that is none, by its index, from an index on
abbrev pub IsFirstNoEntry : List Place → List ℕ → ℕ → List RawHandler → ℕ → ℕ → Type 0
IsFirstNoEntry consts starts size [] from index = ⊥
IsFirstNoEntry consts starts size (raw ∷ table) from index =
    (((handler : Handler) → IsEntry consts starts size raw handler → ⊥) × (index ≡ from))
    ⊎ ((handler : Handler) × IsEntry consts starts size raw handler
    × IsFirstNoEntry consts starts size table (from + 1) index)

-- ---- the whole

-- The code and the exception table are this program, whose instructions begin at these offsets;
-- the last offset is that of the end.
pub record Decodes (consts : List Place) (code : List ℕ) (table : List RawHandler)
    (decoded : Decoded) : Type 0 where
  pub located : List Instr
  pub starts : List ℕ
  pub follow : Follow consts code 0 located starts (length code)
  pub offsets : decoded.offsets ≡ starts ++ length code ∷ []
  pub instrs : AllZip (Leads starts) located decoded.program.instrs
  pub handlers : AllZip (IsEntry consts starts (length code)) table decoded.program.handlers

-- The first test that fails: of the instructions in the order of their bytes, then of their
-- targets, then of the entries of the exception table.
pub data FirstFault (consts : List Place) (code : List ℕ) (table : List RawHandler)
    : CodeFault → Type 0 where
  stops : (located : List Instr) (starts : List ℕ) (at : ℕ) (fault : CodeFault)
      → Follow consts code 0 located starts at → at < length code → IsStop consts code at fault
      → FirstFault consts code table fault
  nowhere : (located : List Instr) (starts : List ℕ) (at : ℕ)
      → Follow consts code 0 located starts (length code)
      → IsFirstNowhere starts located starts at → FirstFault consts code table (BadTarget at)
  no_entry : (located instrs : List Instr) (starts : List ℕ) (index : ℕ)
      → Follow consts code 0 located starts (length code) → AllZip (Leads starts) located instrs
      → IsFirstNoEntry consts starts (length code) table 0 index
      → FirstFault consts code table (BadRange index)
