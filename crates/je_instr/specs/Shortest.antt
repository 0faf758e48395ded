-- The shortest form of each instruction as bytes (JVMS 6.5). Jumps have distances of two bytes, and
-- switches of four.
use Rattle.std.specs.Prelude.{ℕ, ◌+◌, ◌-◌, ◌*◌, ◌%◌, Bool, ◌&&◌, ℤ, pos, negsuc, ◌+ℤ◌, ◌-ℤ◌, int_le}
use Rattle.std.specs.Prelude.{List, [], ◌∷◌, ◌++◌, length, take, nat_le, nat_lt, if◌then◌else◌}
use Rattle.std.specs.Prelude.{slice_index}
use Rattle.std.specs.List.{flat_map}
use Rattle.std.specs.Int.{w8, w16, w32, cast_unsigned}
use Rattle.je_base.specs.Bytes.{u1, u2, u4}
use Rattle.je_instr.specs.declared.instr.Case.{Case}
use Rattle.je_instr.specs.declared.instr.Instr.{Instr}
use Rattle.je_instr.specs.declared.instr.Instr.TheVariants.{Simple, IntPush, Ldc, Ldc2, Local}
use Rattle.je_instr.specs.declared.instr.Instr.TheVariants.{Iinc, Branch, Goto, TableSwitch}
use Rattle.je_instr.specs.declared.instr.Instr.TheVariants.{LookupSwitch, Field, Invoke}
use Rattle.je_instr.specs.declared.instr.Instr.TheVariants.{InvokeInterface, InvokeDynamic, New}
use Rattle.je_instr.specs.declared.instr.Instr.TheVariants.{NewArray, ANewArray, CheckCast}
use Rattle.je_instr.specs.declared.instr.Instr.TheVariants.{InstanceOf, MultiNew}
use Rattle.je_instr.specs.declared.opcodes.TheConstants as op

-- ---- numbers in two's complement

abbrev pub s1 : ℤ → List ℕ
s1 n = u1 (cast_unsigned w8 n)

abbrev pub s2 : ℤ → List ℕ
s2 n = u2 (cast_unsigned w16 n)

abbrev pub s4 : ℤ → List ℕ
s4 n = u4 (cast_unsigned w32 n)

abbrev pub is_from : ℤ → ℤ → ℤ → Bool
is_from low high n = int_le low n && int_le n high

-- ---- operands of several sizes

-- from -1 to 5 in the opcode, then in one byte, then in two
unfoldable pub push_bytes : ℤ → List ℕ
push_bytes n =
    if is_from (negsuc 0) (pos 5) n then u1 (cast_unsigned w8 (pos op.ICONST_0 +ℤ n)) else
    if is_from (negsuc 127) (pos 127) n then op.BIPUSH ∷ s1 n else
    op.SIPUSH ∷ s2 n

unfoldable pub push_size : ℤ → ℕ
push_size n =
    if is_from (negsuc 0) (pos 5) n then 1 else
    if is_from (negsuc 127) (pos 127) n then 2 else 3

-- the opcode of a load or a store that has one of the slots 0 to 3 in it
unfoldable pub with_slot : ℕ → ℕ → ℕ
with_slot opcode slot =
    if nat_lt opcode op.ISTORE then op.ILOAD_0 + 4 * (opcode - op.ILOAD) + slot else
    op.ISTORE_0 + 4 * (opcode - op.ISTORE) + slot

-- a slot from 0 to 3 in the opcode, then in one byte, then in two behind wide
unfoldable pub local_bytes : ℕ → ℕ → List ℕ
local_bytes opcode slot =
    if nat_le slot 3 then u1 (with_slot opcode slot) else
    if nat_le slot 255 then opcode ∷ u1 slot else
    op.WIDE ∷ opcode ∷ u2 slot

unfoldable pub local_size : ℕ → ℕ
local_size slot = if nat_le slot 3 then 1 else if nat_le slot 255 then 2 else 4

-- the slot and the number of iinc have one byte each
abbrev pub is_narrow : ℕ → ℤ → Bool
is_narrow slot by = nat_le slot 255 && is_from (negsuc 127) (pos 127) by

unfoldable pub iinc_bytes : ℕ → ℤ → List ℕ
iinc_bytes slot by =
    if is_narrow slot by then op.IINC ∷ (u1 slot ++ s1 by) else
    op.WIDE ∷ op.IINC ∷ (u2 slot ++ s2 by)

unfoldable pub iinc_size : ℕ → ℤ → ℕ
iinc_size slot by = if is_narrow slot by then 3 else 6

unfoldable pub ldc_bytes : ℕ → List ℕ
ldc_bytes index = if nat_le index 255 then op.LDC ∷ u1 index else op.LDC_W ∷ u2 index

unfoldable pub ldc_size : ℕ → ℕ
ldc_size index = if nat_le index 255 then 2 else 3

-- ---- offsets

-- how many bytes an instruction has at an offset
abbrev pub short_size : ℕ → Instr → ℕ
short_size at (Simple opcode) = 1
short_size at (IntPush n) = push_size n
short_size at (Ldc index) = ldc_size index
short_size at (Ldc2 index) = 3
short_size at (Local opcode slot) = local_size slot
short_size at (Iinc slot by) = iinc_size slot by
short_size at (Branch opcode target) = 3
short_size at (Goto target) = 3
short_size at (TableSwitch low targets fallback) = 4 - at % 4 + 12 + 4 * length targets
short_size at (LookupSwitch cases fallback) = 4 - at % 4 + 8 + 8 * length cases
short_size at (Field opcode index) = 3
short_size at (Invoke opcode index) = 3
short_size at (InvokeInterface index count) = 5
short_size at (InvokeDynamic index) = 5
short_size at (New index) = 3
short_size at (NewArray code) = 2
short_size at (ANewArray index) = 3
short_size at (CheckCast index) = 3
short_size at (InstanceOf index) = 3
short_size at (MultiNew index count) = 4

-- the offset behind instructions that stand from an offset on
abbrev pub short_end : ℕ → List Instr → ℕ
short_end at [] = at
short_end at (instr ∷ instrs) = short_end (at + short_size at instr) instrs

-- their offsets, and that of the end
abbrev pub short_offsets : ℕ → List Instr → List ℕ
short_offsets at [] = at ∷ []
short_offsets at (instr ∷ instrs) = at ∷ short_offsets (at + short_size at instr) instrs

-- ---- bytes, where the instructions begin at these offsets

-- how far it is from an offset to an instruction
unfoldable pub distance : List ℕ → ℕ → ℕ → ℤ
distance offsets at target = pos (slice_index offsets target) -ℤ pos at

-- zeros up to the next multiple of four behind the opcode
abbrev pub padding : ℕ → List ℕ
padding at = take (3 - at % 4) (0 ∷ 0 ∷ 0 ∷ [])

abbrev pub target_bytes : List ℕ → ℕ → ℕ → List ℕ
target_bytes offsets at target = s4 (distance offsets at target)

abbrev pub case_bytes : List ℕ → ℕ → Case → List ℕ
case_bytes offsets at c = s4 c.key ++ target_bytes offsets at c.target

-- the greatest of so many keys from the least one on
abbrev pub last_key : ℤ → ℕ → ℤ
last_key low count = low +ℤ (pos count -ℤ pos 1)

unfoldable pub table_bytes : List ℕ → ℕ → ℤ → List ℕ → ℕ → List ℕ
table_bytes offsets at low targets fallback =
    op.TABLESWITCH ∷ (padding at ++ (target_bytes offsets at fallback
    ++ (s4 low ++ (s4 (last_key low (length targets))
    ++ flat_map (target_bytes offsets at) targets))))

unfoldable pub lookup_bytes : List ℕ → ℕ → List Case → ℕ → List ℕ
lookup_bytes offsets at cases fallback =
    op.LOOKUPSWITCH ∷ (padding at ++ (target_bytes offsets at fallback
    ++ (u4 (length cases) ++ flat_map (case_bytes offsets at) cases)))

-- the instruction at an offset
abbrev pub short_bytes : List ℕ → ℕ → Instr → List ℕ
short_bytes offsets at (Simple opcode) = u1 opcode
short_bytes offsets at (IntPush n) = push_bytes n
short_bytes offsets at (Ldc index) = ldc_bytes index
short_bytes offsets at (Ldc2 index) = op.LDC2_W ∷ u2 index
short_bytes offsets at (Local opcode slot) = local_bytes opcode slot
short_bytes offsets at (Iinc slot by) = iinc_bytes slot by
short_bytes offsets at (Branch opcode target) = opcode ∷ s2 (distance offsets at target)
short_bytes offsets at (Goto target) = op.GOTO ∷ s2 (distance offsets at target)
short_bytes offsets at (TableSwitch low targets fallback) =
    table_bytes offsets at low targets fallback
short_bytes offsets at (LookupSwitch cases fallback) = lookup_bytes offsets at cases fallback
short_bytes offsets at (Field opcode index) = opcode ∷ u2 index
short_bytes offsets at (Invoke opcode index) = opcode ∷ u2 index
short_bytes offsets at (InvokeInterface index count) =
    op.INVOKEINTERFACE ∷ (u2 index ++ (u1 count ++ u1 0))
short_bytes offsets at (InvokeDynamic index) = op.INVOKEDYNAMIC ∷ (u2 index ++ u2 0)
short_bytes offsets at (New index) = op.NEW ∷ u2 index
short_bytes offsets at (NewArray code) = op.NEWARRAY ∷ u1 code
short_bytes offsets at (ANewArray index) = op.ANEWARRAY ∷ u2 index
short_bytes offsets at (CheckCast index) = op.CHECKCAST ∷ u2 index
short_bytes offsets at (InstanceOf index) = op.INSTANCEOF ∷ u2 index
short_bytes offsets at (MultiNew index count) = op.MULTIANEWARRAY ∷ (u2 index ++ u1 count)

-- instructions from an offset on
abbrev pub short_code : List ℕ → ℕ → List Instr → List ℕ
short_code offsets at [] = []
short_code offsets at (instr ∷ instrs) =
    short_bytes offsets at instr ++ short_code offsets (at + short_size at instr) instrs
