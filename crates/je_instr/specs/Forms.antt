-- What stands at an offset of code (JVMS 6.5): an instruction in one of its forms, or why none does
-- so.
use Rattle.std.specs.Prelude.{ℕ, zero, suc, ◌+◌, ◌-◌, ◌*◌, ◌/◌, ◌%◌, ◌^◌, ◌||◌, ◌&&◌, ℤ, pos, ◌-ℤ◌}
use Rattle.std.specs.Prelude.{int_lt, unsigned_abs, Bool, List, [], ◌∷◌, length, Result, Ok, Err}
use Rattle.std.specs.Prelude.{nat_eq, nat_lt, nat_le, if◌then◌else◌, slice_index}
use Rattle.std.specs.Int.{w8, w16, w32, from_be_bytes, cast_signed, cast_unsigned}
use Rattle.je_instr.specs.declared.fault.CodeFault.{CodeFault}
use Rattle.je_instr.specs.declared.fault.CodeFault.TheVariants.{BadOpcode, CutShort, BadOperand}
use Rattle.je_instr.specs.declared.fault.CodeFault.TheVariants.{Jsr}
use Rattle.je_instr.specs.declared.instr.Case.{Case}
use Rattle.je_instr.specs.declared.instr.Instr.{Instr}
use Rattle.je_instr.specs.declared.instr.Instr.TheVariants.{Simple, IntPush, Ldc, Ldc2, Local, Iinc}
use Rattle.je_instr.specs.declared.instr.Instr.TheVariants.{Branch, Goto, TableSwitch, LookupSwitch}
use Rattle.je_instr.specs.declared.instr.Instr.TheVariants.{Field, Invoke, InvokeInterface}
use Rattle.je_instr.specs.declared.instr.Instr.TheVariants.{InvokeDynamic, New, NewArray, ANewArray}
use Rattle.je_instr.specs.declared.instr.Instr.TheVariants.{CheckCast, InstanceOf, MultiNew}
use Rattle.je_instr.specs.declared.opcodes.TheConstants as op

-- ---- numbers

-- the numbers of one, two and four bytes that begin at an offset, the highest byte first
abbrev pub u1_at : List ℕ → ℕ → ℕ
u1_at code at = slice_index code at

unfoldable pub u2_at : List ℕ → ℕ → ℕ
u2_at code at = from_be_bytes w16 (slice_index code at ∷ slice_index code (at + 1) ∷ [])

unfoldable pub u4_at : List ℕ → ℕ → ℕ
u4_at code at =
    from_be_bytes w32 (slice_index code at ∷ slice_index code (at + 1) ∷ slice_index code (at + 2)
    ∷ slice_index code (at + 3) ∷ [])

-- the same in two's complement
abbrev pub s1_at : List ℕ → ℕ → ℤ
s1_at code at = cast_signed w8 (u1_at code at)

abbrev pub s2_at : List ℕ → ℕ → ℤ
s2_at code at = cast_signed w16 (u2_at code at)

abbrev pub s4_at : List ℕ → ℕ → ℤ
s4_at code at = cast_signed w32 (u4_at code at)

-- ---- targets

-- The offset at a distance from the instruction at an offset. It is taken modulo 2 ^ 32, so that a
-- place before the code comes behind all code of less than 2 ^ 31 bytes.
abbrev pub away : ℕ → ℤ → ℕ
away at distance = (at + cast_unsigned w32 distance) % 2 ^ 32

-- the target of the instruction at an offset, by the distance of two or four bytes at another
unfoldable pub near : List ℕ → ℕ → ℕ → ℕ
near code at operand = away at (s2_at code operand)

unfoldable pub far : List ℕ → ℕ → ℕ → ℕ
far code at operand = (at + u4_at code operand) % 2 ^ 32

-- ---- forms of one size

abbrev pub between : ℕ → ℕ → ℕ → Bool
between low high n = nat_le low n && nat_le n high

-- how many bytes an instruction has that is neither a switch nor wide
unfoldable pub size_of : ℕ → ℕ
size_of opcode =
    if nat_eq opcode op.BIPUSH || (nat_eq opcode op.LDC || (between op.ILOAD op.ALOAD opcode
    || (between op.ISTORE op.ASTORE opcode || (nat_eq opcode op.RET || nat_eq opcode op.NEWARRAY))))
    then 2 else
    if nat_eq opcode op.MULTIANEWARRAY then 4 else
    if nat_eq opcode op.INVOKEINTERFACE || (nat_eq opcode op.INVOKEDYNAMIC
    || (nat_eq opcode op.GOTO_W || nat_eq opcode op.JSR_W))
    then 5 else
    if between op.SIPUSH op.LDC2_W opcode || (nat_eq opcode op.IINC
    || (between op.IFEQ op.JSR opcode || (between op.GETSTATIC op.NEW opcode
    || (nat_eq opcode op.ANEWARRAY || (between op.CHECKCAST op.INSTANCEOF opcode
    || between op.IFNULL op.IFNONNULL opcode)))))
    then 3 else 1

-- constants, and what stands among their opcodes
unfoldable pub push_form : List ℕ → ℕ → ℕ → Instr
push_form code at opcode =
    if between op.ICONST_M1 op.ICONST_5 opcode then IntPush (pos opcode -ℤ pos op.ICONST_0) else
    if nat_eq opcode op.BIPUSH then IntPush (s1_at code (at + 1)) else
    if nat_eq opcode op.SIPUSH then IntPush (s2_at code (at + 1)) else
    if nat_eq opcode op.LDC then Ldc (u1_at code (at + 1)) else
    if nat_eq opcode op.LDC_W then Ldc (u2_at code (at + 1)) else
    if nat_eq opcode op.LDC2_W then Ldc2 (u2_at code (at + 1)) else
    Simple opcode

-- loads and stores; of the forms with the slot in the opcode there are four for each kind
unfoldable pub local_form : List ℕ → ℕ → ℕ → Instr
local_form code at opcode =
    if between op.ILOAD op.ALOAD opcode then Local opcode (u1_at code (at + 1)) else
    if between op.ISTORE op.ASTORE opcode then Local opcode (u1_at code (at + 1)) else
    if between op.ILOAD_0 op.ALOAD_3 opcode
    then Local (op.ILOAD + (opcode - op.ILOAD_0) / 4) ((opcode - op.ILOAD_0) % 4) else
    if between op.ISTORE_0 op.ASTORE_3 opcode
    then Local (op.ISTORE + (opcode - op.ISTORE_0) / 4) ((opcode - op.ISTORE_0) % 4) else
    Simple opcode

-- what moves, computes, compares and jumps
unfoldable pub jump_form : List ℕ → ℕ → ℕ → Result Instr CodeFault
jump_form code at opcode =
    if nat_eq opcode op.IINC then Ok (Iinc (u1_at code (at + 1)) (s1_at code (at + 2))) else
    if between op.IFEQ op.IF_ACMPNE opcode then Ok (Branch opcode (near code at (at + 1))) else
    if nat_eq opcode op.GOTO then Ok (Goto (near code at (at + 1))) else
    if between op.JSR op.RET opcode then Err (Jsr at) else
    Ok (Simple opcode)

-- members, classes, and the jumps of the last opcodes
unfoldable pub member_form : List ℕ → ℕ → ℕ → Result Instr CodeFault
member_form code at opcode =
    let index = u2_at code (at + 1) in
    if between op.GETSTATIC op.PUTFIELD opcode then Ok (Field opcode index) else
    if between op.INVOKEVIRTUAL op.INVOKESTATIC opcode then Ok (Invoke opcode index) else
    if nat_eq opcode op.INVOKEINTERFACE
    then if nat_eq (u1_at code (at + 4)) 0 then Ok (InvokeInterface index (u1_at code (at + 3)))
    else Err (BadOperand at) else
    if nat_eq opcode op.INVOKEDYNAMIC
    then if nat_eq (u2_at code (at + 3)) 0 then Ok (InvokeDynamic index)
    else Err (BadOperand at) else
    if nat_eq opcode op.NEW then Ok (New index) else
    if nat_eq opcode op.NEWARRAY then Ok (NewArray (u1_at code (at + 1))) else
    if nat_eq opcode op.ANEWARRAY then Ok (ANewArray index) else
    if nat_eq opcode op.CHECKCAST then Ok (CheckCast index) else
    if nat_eq opcode op.INSTANCEOF then Ok (InstanceOf index) else
    if nat_eq opcode op.MULTIANEWARRAY then Ok (MultiNew index (u1_at code (at + 3))) else
    if between op.IFNULL op.IFNONNULL opcode then Ok (Branch opcode (near code at (at + 1))) else
    if nat_eq opcode op.GOTO_W then Ok (Goto (far code at (at + 1))) else
    if nat_eq opcode op.JSR_W then Err (Jsr at) else
    Ok (Simple opcode)

-- the instruction of this opcode, whose operands are all there; its targets are offsets
unfoldable pub fixed_form : List ℕ → ℕ → ℕ → Result Instr CodeFault
fixed_form code at opcode =
    if nat_le opcode op.LDC2_W then Ok (push_form code at opcode) else
    if nat_le opcode op.ASTORE_3 then Ok (local_form code at opcode) else
    if nat_le opcode op.RET then jump_form code at opcode else
    member_form code at opcode

-- An instruction and the offset behind it; `Err` where none stands there.
abbrev pub Read : Type 0
Read = Result (Instr × ℕ) CodeFault

-- so many bytes, which are cut off or make this instruction
abbrev pub sized : List ℕ → ℕ → ℕ → Result Instr CodeFault → Read
sized code at size (Ok instr) =
    if nat_lt (length code) (at + size) then Err (CutShort at) else Ok (instr, at + size)
sized code at size (Err fault) =
    if nat_lt (length code) (at + size) then Err (CutShort at) else Err fault

-- ---- wide

-- The opcode behind wide is tested as soon as it is there.
unfoldable pub wide_form : List ℕ → ℕ → Read
wide_form code at =
    let opcode = u1_at code (at + 1) in
    if nat_lt (length code) (at + 2) then Err (CutShort at) else
    if between op.ILOAD op.ALOAD opcode || between op.ISTORE op.ASTORE opcode
    then sized code at 4 (Ok (Local opcode (u2_at code (at + 2)))) else
    if nat_eq opcode op.IINC
    then sized code at 6 (Ok (Iinc (u2_at code (at + 2)) (s2_at code (at + 4)))) else
    if nat_eq opcode op.RET then Err (Jsr at) else
    Err (BadOperand at)

-- ---- switches

-- the first multiple of four behind the opcode, from the start of the code; anything stands before
abbrev pub aligned : ℕ → ℕ
aligned at = at + (4 - at % 4)

-- so many targets from an offset on
abbrev pub targets_at : List ℕ → ℕ → ℕ → ℕ → List ℕ
targets_at code at from zero = []
targets_at code at from (suc count) = far code at from ∷ targets_at code at (from + 4) count

-- a key with its target
abbrev pub case_at : List ℕ → ℕ → ℕ → Case
case_at code at from = record { key = s4_at code from; target = far code at (from + 4) }

-- so many of them
abbrev pub cases_at : List ℕ → ℕ → ℕ → ℕ → List Case
cases_at code at from zero = []
cases_at code at from (suc count) =
    case_at code at from ∷ cases_at code at (from + 8) count

-- how many numbers there are from one to another that is not less
abbrev pub count_between : ℤ → ℤ → ℕ
count_between low high = unsigned_abs (high -ℤ low) + 1

-- tableswitch; its bounds are tested as soon as they are there
unfoldable pub table_form : List ℕ → ℕ → Read
table_form code at =
    let from = aligned at in
    let low = s4_at code (from + 4) in
    let high = s4_at code (from + 8) in
    let count = count_between low high in
    if nat_lt (length code) (from + 12) then Err (CutShort at) else
    if int_lt high low then Err (BadOperand at) else
    if nat_lt (length code) (from + 12 + 4 * count) then Err (CutShort at) else
    Ok (
      TableSwitch low (targets_at code at (from + 12) count) (far code at from),
      from + 12 + 4 * count,
    )

-- lookupswitch; its count is tested as soon as it is there
unfoldable pub lookup_form : List ℕ → ℕ → Read
lookup_form code at =
    let from = aligned at in
    let count = u4_at code (from + 4) in
    if nat_lt (length code) (from + 8) then Err (CutShort at) else
    if nat_le (2 ^ 31) count then Err (BadOperand at) else
    if nat_lt (length code) (from + 8 + 8 * count) then Err (CutShort at) else
    Ok (LookupSwitch (cases_at code at (from + 8) count) (far code at from), from + 8 + 8 * count)

-- ---- the whole

-- What stands at an offset. The targets of the instruction are offsets.
unfoldable pub form_at : List ℕ → ℕ → Read
form_at code at =
    let opcode = u1_at code at in
    if nat_eq opcode op.TABLESWITCH then table_form code at else
    if nat_eq opcode op.LOOKUPSWITCH then lookup_form code at else
    if nat_eq opcode op.WIDE then wide_form code at else
    if nat_lt op.JSR_W opcode then Err (BadOpcode at) else
    sized code at (size_of opcode) (fixed_form code at opcode)
