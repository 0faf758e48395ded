-- What the opcodes stand for, a line an opcode (JVMS 6.5).
use Rattle.std.specs.Prelude.{ℕ, pos, List, [], ◌∷◌, Option, Some, None, option_map, nat_eq, true}
use Rattle.std.specs.Prelude.{false}
use Rattle.std.specs.List.{find}
use Rattle.je_desc.specs.FieldType.{BaseType, Byte, Char, Double, Float, Int, Long, Short, Boolean}
use Rattle.je_machine.specs.Value.{Kind, IntKind, LongKind, FloatKind, DoubleKind, ReferenceKind}
use Rattle.je_machine.specs.Value.{Value, Null, Flt, Dbl}
use Rattle.je_machine.specs.Value as value
use Rattle.je_machine.specs.Calculation.{Calculation, Whole, IntWhole, LongWhole, BinaryOp, Add}
use Rattle.je_machine.specs.Calculation.{Subtract, Multiply, Divide, Remainder, And, Or, Xor}
use Rattle.je_machine.specs.Calculation.{ShiftOp, ShiftLeft, ShiftRight, ShiftRightUnsigned}
use Rattle.je_machine.specs.Calculation.{BytePart, CharPart, ShortPart, Binary, Shift, Negate}
use Rattle.je_machine.specs.Calculation.{Extend, Truncate, Keep, CompareLongs}
use Rattle.je_machine.specs.Condition.{Condition, Equals, Differs, IsLess, IsNotLess, IsGreater}
use Rattle.je_machine.specs.Condition.{IsNotGreater, Zero, Ints, Same, IsNull}
use Rattle.je_machine.specs.Action.{Element, Bytes, Chars, Shorts, Longs, Floats, Doubles}
use Rattle.je_machine.specs.Action.{References, Field, Sort, Virtual, Special, Static, Action}
use Rattle.je_machine.specs.Action.{Calculate, FloatOperation, ArrayLength, LoadElement}
use Rattle.je_machine.specs.Action.{StoreElement, GetField, PutField, GetStatic, PutStatic}
use Rattle.je_machine.specs.Action.{MonitorEnter, MonitorExit}
use Rattle.je_machine.specs.Action as element
use Rattle.je_machine.specs.Operation.{Nop, Push, Drop, Copy, Swap, Act, Throw, Operation, Do, Load}
use Rattle.je_machine.specs.Operation.{Store, Return}
use Rattle.je_instr.specs.declared.opcodes.TheConstants as op

-- what stands beside a number in a table
abbrev pub beside : {A : Type 0} → List (ℕ × A) → ℕ → Option A
beside table number = option_map (λ row. row.1) (find (λ row. nat_eq row.0 number) table)

-- ---- instructions without operands

abbrev push : Value → Operation
push v = Do (Push v)

abbrev load : Element → Operation
load element = Do (Act (LoadElement element))

abbrev store : Element → Operation
store element = Do (Act (StoreElement element))

abbrev compute : Calculation → Operation
compute calculation = Do (Act (Calculate calculation))

abbrev ints : BinaryOp → Operation
ints binary = compute (Binary IntWhole binary)

abbrev longs : BinaryOp → Operation
longs binary = compute (Binary LongWhole binary)

abbrev shift : Whole → ShiftOp → Operation
shift whole by = compute (Shift whole by)

-- from one kind to another, by floats or doubles
abbrev convert : ℕ → Kind → Kind → ℕ × Operation
convert opcode from to = (opcode, Do (Act (FloatOperation opcode (from ∷ []) to)))

-- of two of one kind
abbrev combine : ℕ → Kind → Kind → ℕ × Operation
combine opcode kind result = (opcode, Do (Act (FloatOperation opcode (kind ∷ kind ∷ []) result)))

abbrev floats : ℕ → ℕ × Operation
floats opcode = combine opcode FloatKind FloatKind

abbrev doubles : ℕ → ℕ × Operation
doubles opcode = combine opcode DoubleKind DoubleKind

unfoldable pub simple_operations : List (ℕ × Operation)
simple_operations =
    (op.NOP, Do Nop)
    ∷ (op.ACONST_NULL, push Null)
    ∷ (op.LCONST_0, push (value.Long (pos 0)))
    ∷ (op.LCONST_1, push (value.Long (pos 1)))
    ∷ (op.FCONST_0, push (Flt 0))
    ∷ (op.FCONST_1, push (Flt 1065353216))
    ∷ (op.FCONST_2, push (Flt 1073741824))
    ∷ (op.DCONST_0, push (Dbl 0))
    ∷ (op.DCONST_1, push (Dbl 4607182418800017408))
    ∷ (op.IALOAD, load element.Ints)
    ∷ (op.LALOAD, load Longs)
    ∷ (op.FALOAD, load Floats)
    ∷ (op.DALOAD, load Doubles)
    ∷ (op.AALOAD, load References)
    ∷ (op.BALOAD, load Bytes)
    ∷ (op.CALOAD, load Chars)
    ∷ (op.SALOAD, load Shorts)
    ∷ (op.IASTORE, store element.Ints)
    ∷ (op.LASTORE, store Longs)
    ∷ (op.FASTORE, store Floats)
    ∷ (op.DASTORE, store Doubles)
    ∷ (op.AASTORE, store References)
    ∷ (op.BASTORE, store Bytes)
    ∷ (op.CASTORE, store Chars)
    ∷ (op.SASTORE, store Shorts)
    ∷ (op.POP, Do (Drop 1))
    ∷ (op.POP2, Do (Drop 2))
    ∷ (op.DUP, Do (Copy 1 0))
    ∷ (op.DUP_X1, Do (Copy 1 1))
    ∷ (op.DUP_X2, Do (Copy 1 2))
    ∷ (op.DUP2, Do (Copy 2 0))
    ∷ (op.DUP2_X1, Do (Copy 2 1))
    ∷ (op.DUP2_X2, Do (Copy 2 2))
    ∷ (op.SWAP, Do Swap)
    ∷ (op.IADD, ints Add)
    ∷ (op.LADD, longs Add)
    ∷ floats op.FADD
    ∷ doubles op.DADD
    ∷ (op.ISUB, ints Subtract)
    ∷ (op.LSUB, longs Subtract)
    ∷ floats op.FSUB
    ∷ doubles op.DSUB
    ∷ (op.IMUL, ints Multiply)
    ∷ (op.LMUL, longs Multiply)
    ∷ floats op.FMUL
    ∷ doubles op.DMUL
    ∷ (op.IDIV, ints Divide)
    ∷ (op.LDIV, longs Divide)
    ∷ floats op.FDIV
    ∷ doubles op.DDIV
    ∷ (op.IREM, ints Remainder)
    ∷ (op.LREM, longs Remainder)
    ∷ floats op.FREM
    ∷ doubles op.DREM
    ∷ (op.INEG, compute (Negate IntWhole))
    ∷ (op.LNEG, compute (Negate LongWhole))
    ∷ convert op.FNEG FloatKind FloatKind
    ∷ convert op.DNEG DoubleKind DoubleKind
    ∷ (op.ISHL, shift IntWhole ShiftLeft)
    ∷ (op.LSHL, shift LongWhole ShiftLeft)
    ∷ (op.ISHR, shift IntWhole ShiftRight)
    ∷ (op.LSHR, shift LongWhole ShiftRight)
    ∷ (op.IUSHR, shift IntWhole ShiftRightUnsigned)
    ∷ (op.LUSHR, shift LongWhole ShiftRightUnsigned)
    ∷ (op.IAND, ints And)
    ∷ (op.LAND, longs And)
    ∷ (op.IOR, ints Or)
    ∷ (op.LOR, longs Or)
    ∷ (op.IXOR, ints Xor)
    ∷ (op.LXOR, longs Xor)
    ∷ (op.I2L, compute Extend)
    ∷ convert op.I2F IntKind FloatKind
    ∷ convert op.I2D IntKind DoubleKind
    ∷ (op.L2I, compute Truncate)
    ∷ convert op.L2F LongKind FloatKind
    ∷ convert op.L2D LongKind DoubleKind
    ∷ convert op.F2I FloatKind IntKind
    ∷ convert op.F2L FloatKind LongKind
    ∷ convert op.F2D FloatKind DoubleKind
    ∷ convert op.D2I DoubleKind IntKind
    ∷ convert op.D2L DoubleKind LongKind
    ∷ convert op.D2F DoubleKind FloatKind
    ∷ (op.I2B, compute (Keep BytePart))
    ∷ (op.I2C, compute (Keep CharPart))
    ∷ (op.I2S, compute (Keep ShortPart))
    ∷ (op.LCMP, compute CompareLongs)
    ∷ combine op.FCMPL FloatKind IntKind
    ∷ combine op.FCMPG FloatKind IntKind
    ∷ combine op.DCMPL DoubleKind IntKind
    ∷ combine op.DCMPG DoubleKind IntKind
    ∷ (op.IRETURN, Return (Some IntKind))
    ∷ (op.LRETURN, Return (Some LongKind))
    ∷ (op.FRETURN, Return (Some FloatKind))
    ∷ (op.DRETURN, Return (Some DoubleKind))
    ∷ (op.ARETURN, Return (Some ReferenceKind))
    ∷ (op.RETURN, Return None)
    ∷ (op.ARRAYLENGTH, Do (Act ArrayLength))
    ∷ (op.ATHROW, Do Throw)
    ∷ (op.MONITORENTER, Do (Act MonitorEnter))
    ∷ (op.MONITOREXIT, Do (Act MonitorExit))
    ∷ []

abbrev pub simple_operation : ℕ → Option Operation
simple_operation opcode = beside simple_operations opcode

-- ---- local variables, by their slots

unfoldable pub local_operations : List (ℕ × (ℕ → Operation))
local_operations =
    (op.ILOAD, Load IntKind)
    ∷ (op.LLOAD, Load LongKind)
    ∷ (op.FLOAD, Load FloatKind)
    ∷ (op.DLOAD, Load DoubleKind)
    ∷ (op.ALOAD, Load ReferenceKind)
    ∷ (op.ISTORE, Store IntKind)
    ∷ (op.LSTORE, Store LongKind)
    ∷ (op.FSTORE, Store FloatKind)
    ∷ (op.DSTORE, Store DoubleKind)
    ∷ (op.ASTORE, Store ReferenceKind)
    ∷ []

-- ---- conditions of jumps

unfoldable pub conditions : List (ℕ × Condition)
conditions =
    (op.IFEQ, Zero Equals)
    ∷ (op.IFNE, Zero Differs)
    ∷ (op.IFLT, Zero IsLess)
    ∷ (op.IFGE, Zero IsNotLess)
    ∷ (op.IFGT, Zero IsGreater)
    ∷ (op.IFLE, Zero IsNotGreater)
    ∷ (op.IF_ICMPEQ, Ints Equals)
    ∷ (op.IF_ICMPNE, Ints Differs)
    ∷ (op.IF_ICMPLT, Ints IsLess)
    ∷ (op.IF_ICMPGE, Ints IsNotLess)
    ∷ (op.IF_ICMPGT, Ints IsGreater)
    ∷ (op.IF_ICMPLE, Ints IsNotGreater)
    ∷ (op.IF_ACMPEQ, Same true)
    ∷ (op.IF_ACMPNE, Same false)
    ∷ (op.IFNULL, IsNull true)
    ∷ (op.IFNONNULL, IsNull false)
    ∷ []

-- ---- fields and methods

unfoldable pub field_actions : List (ℕ × (Field → Action))
field_actions =
    (op.GETSTATIC, GetStatic)
    ∷ (op.PUTSTATIC, PutStatic)
    ∷ (op.GETFIELD, GetField)
    ∷ (op.PUTFIELD, PutField)
    ∷ []

unfoldable pub sorts : List (ℕ × Sort)
sorts =
    (op.INVOKEVIRTUAL, Virtual)
    ∷ (op.INVOKESPECIAL, Special)
    ∷ (op.INVOKESTATIC, Static)
    ∷ []

-- ---- the codes of types that newarray has (JVMS table 6.5.newarray-A)

unfoldable pub array_types : List (ℕ × BaseType)
array_types =
    (4, Boolean)
    ∷ (5, Char)
    ∷ (6, Float)
    ∷ (7, Double)
    ∷ (8, Byte)
    ∷ (9, Short)
    ∷ (10, Int)
    ∷ (11, Long)
    ∷ []
