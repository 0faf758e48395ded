-- Types as Java source has them (JLS SE 8, 4.2, 4.3 and 10.1).
use Rattle.std.specs.Prelude.{ℕ, ◌==◌, List, ◌++◌, map, codes, if◌then◌else◌}
use Rattle.je_base.specs.Ascii.{dot}
use Rattle.je_base.specs.Shown.{shown}
use Rattle.je_desc.specs.FieldType.{BaseType, Byte, Char, Double, Float, Int, Long, Short, Boolean}
use Rattle.je_desc.specs.FieldType.{FieldType, Base, Object, Array}

-- the keyword of a primitive type (JLS 4.2)
abbrev pub keyword : BaseType → List ℕ
keyword Byte = codes "byte"
keyword Char = codes "char"
keyword Double = codes "double"
keyword Float = codes "float"
keyword Int = codes "int"
keyword Long = codes "long"
keyword Short = codes "short"
keyword Boolean = codes "boolean"

-- what stands between the identifiers of a name in internal form (JVMS 4.2.1)
abbrev pub slash : ℕ
slash = 47

-- a byte of a name in internal form, in source
abbrev pub source_byte : ℕ → ℕ
source_byte b = if b == slash then dot else b

-- the name of a class in source, with `.` where its internal form has `/`, as a message shows it
abbrev pub source_name : List ℕ → List ℕ
source_name name = shown (map source_byte name)

-- the brackets of one dimension
abbrev pub brackets : List ℕ
brackets = codes "[]"

-- a type in source: a keyword, the name of a class, or the component type and `[]` (JLS 10.1)
abbrev pub source_of : FieldType → List ℕ
source_of (Base base) = keyword base
source_of (Object name) = source_name name
source_of (Array component) = source_of component ++ brackets
