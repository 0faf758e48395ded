-- The tags of the entries of a constant pool (JVMS 4.4, Table 4.4-A), the least and the greatest
-- kind of a method handle (JVMS 4.4.8, Table 5.4.3.5-A), and the limits of a pool.
use Rattle.std.specs.Prelude.{ℕ, ◌≤◌}

abbrev pub CONSTANT_Utf8 : ℕ
CONSTANT_Utf8 = 1

abbrev pub CONSTANT_Integer : ℕ
CONSTANT_Integer = 3

abbrev pub CONSTANT_Float : ℕ
CONSTANT_Float = 4

abbrev pub CONSTANT_Long : ℕ
CONSTANT_Long = 5

abbrev pub CONSTANT_Double : ℕ
CONSTANT_Double = 6

abbrev pub CONSTANT_Class : ℕ
CONSTANT_Class = 7

abbrev pub CONSTANT_String : ℕ
CONSTANT_String = 8

abbrev pub CONSTANT_Fieldref : ℕ
CONSTANT_Fieldref = 9

abbrev pub CONSTANT_Methodref : ℕ
CONSTANT_Methodref = 10

abbrev pub CONSTANT_InterfaceMethodref : ℕ
CONSTANT_InterfaceMethodref = 11

abbrev pub CONSTANT_NameAndType : ℕ
CONSTANT_NameAndType = 12

abbrev pub CONSTANT_MethodHandle : ℕ
CONSTANT_MethodHandle = 15

abbrev pub CONSTANT_MethodType : ℕ
CONSTANT_MethodType = 16

abbrev pub CONSTANT_InvokeDynamic : ℕ
CONSTANT_InvokeDynamic = 18

abbrev pub REF_getField : ℕ
REF_getField = 1

abbrev pub REF_invokeInterface : ℕ
REF_invokeInterface = 9

-- a kind of a method handle
abbrev pub IsKind : ℕ → Type 0
IsKind kind = (REF_getField ≤ kind) × (kind ≤ REF_invokeInterface)

-- the greatest count of a pool (JVMS 4.1)
abbrev pub most_count : ℕ
most_count = 65535

-- the most bytes of a text (JVMS 4.4.7)
abbrev pub most_bytes : ℕ
most_bytes = 65535
