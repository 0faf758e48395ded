-- The table of built-in classes.
use Rattle.std.specs.Prelude.{List, [], ◌∷◌, map, Option, Some, None, codes}
use Rattle.std.specs.Prelude.{if◌then◌else◌}
use Rattle.je_base.specs.Text.{is_same_text}
use Rattle.je_desc.specs.FieldType.{FieldType, Base, Object}
use Rattle.je_desc.specs.FieldType as spelled
use Rattle.je_desc.specs.declared.summary.Summary.{Summary}
use Rattle.je_world.specs.Question.{Name, Known, Absent, IsClass}
use Rattle.je_builtin.specs.Words.{ClassLine, summary_of}
use Rattle.je_builtin.specs.Words.{method, void_method, constructor, static_method}
use Rattle.je_builtin.specs.Words.{abstract_method, abstract_void_method, static_field}
use Rattle.je_builtin.specs.Words.{object_name, class_below, class, abstract_class, interface}
use Rattle.je_builtin.specs.Words.{thrown_below}

-- ---- types of members

abbrev boolean : FieldType
boolean = Base spelled.Boolean

abbrev byte : FieldType
byte = Base spelled.Byte

abbrev char : FieldType
char = Base spelled.Char

abbrev short : FieldType
short = Base spelled.Short

abbrev int : FieldType
int = Base spelled.Int

abbrev long : FieldType
long = Base spelled.Long

abbrev float : FieldType
float = Base spelled.Float

abbrev double : FieldType
double = Base spelled.Double

-- ---- names

abbrev object : Name
object = object_name

abbrev string : Name
string = codes "java/lang/String"

abbrev builder : Name
builder = codes "java/lang/StringBuilder"

abbrev number : Name
number = codes "java/lang/Number"

abbrev class_class : Name
class_class = codes "java/lang/Class"

abbrev throwable : Name
throwable = codes "java/lang/Throwable"

abbrev exception : Name
exception = codes "java/lang/Exception"

abbrev runtime_exception : Name
runtime_exception = codes "java/lang/RuntimeException"

abbrev out_of_bounds : Name
out_of_bounds = codes "java/lang/IndexOutOfBoundsException"

abbrev comparable : Name
comparable = codes "java/lang/Comparable"

abbrev chars : Name
chars = codes "java/lang/CharSequence"

abbrev serializable : Name
serializable = codes "java/io/Serializable"

abbrev output_stream : Name
output_stream = codes "java/io/OutputStream"

abbrev filter_stream : Name
filter_stream = codes "java/io/FilterOutputStream"

abbrev print_stream : Name
print_stream = codes "java/io/PrintStream"

-- ---- lines that recur

-- the class of a primitive type's values: `valueOf`, the value, and `TYPE`
abbrev wrapper : Name → Name → List Name → FieldType → Name → ClassLine
wrapper above name interfaces primitive value =
    class_below above name interfaces
    (static_field (codes "TYPE") (Object class_class) ∷ [])
    (static_method (codes "valueOf") (primitive ∷ []) (Object name) ∷
    method value [] primitive ∷ [])

-- what is thrown
abbrev thrown : Name → Name → ClassLine
thrown above name = thrown_below above name (Object string ∷ [])

-- ---- the table

unfoldable pub class_lines : List ClassLine
class_lines =
    record (class object [] [] (
    constructor [] ∷
    method (codes "equals") (Object object ∷ []) boolean ∷
    method (codes "hashCode") [] int ∷
    method (codes "toString") [] (Object string) ∷
    method (codes "getClass") [] (Object class_class) ∷ []
    )) { super_name = None } ∷
    class string (comparable ∷ chars ∷ serializable ∷ []) [] (
    method (codes "length") [] int ∷
    method (codes "charAt") (int ∷ []) char ∷
    method (codes "isEmpty") [] boolean ∷
    method (codes "concat") (Object string ∷ []) (Object string) ∷
    method (codes "equals") (Object object ∷ []) boolean ∷
    static_method (codes "valueOf") (int ∷ []) (Object string) ∷
    static_method (codes "valueOf") (long ∷ []) (Object string) ∷
    static_method (codes "valueOf") (boolean ∷ []) (Object string) ∷
    static_method (codes "valueOf") (char ∷ []) (Object string) ∷
    static_method (codes "valueOf") (Object object ∷ []) (Object string) ∷ []
    ) ∷
    class builder (chars ∷ serializable ∷ []) [] (
    constructor [] ∷
    method (codes "append") (boolean ∷ []) (Object builder) ∷
    method (codes "append") (char ∷ []) (Object builder) ∷
    method (codes "append") (int ∷ []) (Object builder) ∷
    method (codes "append") (long ∷ []) (Object builder) ∷
    method (codes "append") (float ∷ []) (Object builder) ∷
    method (codes "append") (double ∷ []) (Object builder) ∷
    method (codes "append") (Object string ∷ []) (Object builder) ∷
    method (codes "append") (Object object ∷ []) (Object builder) ∷
    method (codes "toString") [] (Object string) ∷ []
    ) ∷
    abstract_class number (serializable ∷ []) (
    method (codes "intValue") [] int ∷
    method (codes "longValue") [] long ∷ []
    ) ∷
    wrapper number (codes "java/lang/Integer") (comparable ∷ []) int (codes "intValue") ∷
    wrapper number (codes "java/lang/Long") (comparable ∷ []) long (codes "longValue") ∷
    wrapper number (codes "java/lang/Short") (comparable ∷ []) short (codes "shortValue") ∷
    wrapper number (codes "java/lang/Byte") (comparable ∷ []) byte (codes "byteValue") ∷
    wrapper number (codes "java/lang/Float") (comparable ∷ []) float (codes "floatValue") ∷
    wrapper number (codes "java/lang/Double") (comparable ∷ []) double (codes "doubleValue") ∷
    wrapper object (codes "java/lang/Character") (comparable ∷ serializable ∷ []) char
    (codes "charValue") ∷
    wrapper object (codes "java/lang/Boolean") (comparable ∷ serializable ∷ []) boolean
    (codes "booleanValue") ∷
    class (codes "java/lang/Void") [] (static_field (codes "TYPE") (Object class_class) ∷ []) [] ∷
    class (codes "java/lang/Math") [] [] (
    static_method (codes "abs") (int ∷ []) int ∷
    static_method (codes "abs") (long ∷ []) long ∷
    static_method (codes "max") (int ∷ int ∷ []) int ∷
    static_method (codes "max") (long ∷ long ∷ []) long ∷
    static_method (codes "min") (int ∷ int ∷ []) int ∷
    static_method (codes "min") (long ∷ long ∷ []) long ∷ []
    ) ∷
    class (codes "java/lang/System") [] (
    static_field (codes "out") (Object print_stream) ∷
    static_field (codes "err") (Object print_stream) ∷ []
    ) (
    static_method (codes "currentTimeMillis") [] long ∷
    static_method (codes "nanoTime") [] long ∷
    static_method (codes "identityHashCode") (Object object ∷ []) int ∷ []
    ) ∷
    class class_class [] [] (method (codes "getName") [] (Object string) ∷ []) ∷
    class throwable (serializable ∷ []) [] (
    constructor [] ∷
    constructor (Object string ∷ []) ∷
    method (codes "getMessage") [] (Object string) ∷
    void_method (codes "printStackTrace") [] ∷ []
    ) ∷
    thrown throwable exception ∷
    thrown throwable (codes "java/lang/Error") ∷
    thrown exception runtime_exception ∷
    thrown runtime_exception (codes "java/lang/ArithmeticException") ∷
    thrown runtime_exception (codes "java/lang/NullPointerException") ∷
    thrown runtime_exception (codes "java/lang/IllegalArgumentException") ∷
    thrown runtime_exception (codes "java/lang/IllegalStateException") ∷
    thrown runtime_exception out_of_bounds ∷
    thrown runtime_exception (codes "java/lang/NegativeArraySizeException") ∷
    thrown runtime_exception (codes "java/lang/ArrayStoreException") ∷
    thrown runtime_exception (codes "java/lang/ClassCastException") ∷
    thrown runtime_exception (codes "java/lang/UnsupportedOperationException") ∷
    thrown out_of_bounds (codes "java/lang/ArrayIndexOutOfBoundsException") ∷
    interface comparable [] ∷
    interface (codes "java/lang/Cloneable") [] ∷
    interface serializable [] ∷
    interface chars (
    abstract_method (codes "length") [] int ∷
    abstract_method (codes "charAt") (int ∷ []) char ∷ []
    ) ∷
    interface (codes "java/lang/Runnable") (abstract_void_method (codes "run") [] ∷ []) ∷
    abstract_class output_stream [] (
    void_method (codes "write") (int ∷ []) ∷
    void_method (codes "flush") [] ∷
    void_method (codes "close") [] ∷ []
    ) ∷
    class_below output_stream filter_stream [] [] [] ∷
    class_below filter_stream print_stream [] [] (
    void_method (codes "print") (boolean ∷ []) ∷
    void_method (codes "print") (char ∷ []) ∷
    void_method (codes "print") (int ∷ []) ∷
    void_method (codes "print") (long ∷ []) ∷
    void_method (codes "print") (float ∷ []) ∷
    void_method (codes "print") (double ∷ []) ∷
    void_method (codes "print") (Object string ∷ []) ∷
    void_method (codes "print") (Object object ∷ []) ∷
    void_method (codes "println") (boolean ∷ []) ∷
    void_method (codes "println") (char ∷ []) ∷
    void_method (codes "println") (int ∷ []) ∷
    void_method (codes "println") (long ∷ []) ∷
    void_method (codes "println") (float ∷ []) ∷
    void_method (codes "println") (double ∷ []) ∷
    void_method (codes "println") (Object string ∷ []) ∷
    void_method (codes "println") (Object object ∷ []) ∷
    void_method (codes "println") [] ∷ []
    ) ∷ []

-- the built-in classes as other classes see them
unfoldable pub built_ins : List Summary
built_ins = map summary_of class_lines

-- the class of this name among these
abbrev pub class_named : Name → List Summary → Option Summary
class_named name [] = None
class_named name (c ∷ classes) =
    if is_same_text c.name name then Some c else class_named name classes

-- the built-in class of this name
abbrev pub built_in : Name → Option Summary
built_in name = class_named name built_ins

-- what lies under a name where files have nothing there
abbrev pub known_built_in : Option Summary → Known
known_built_in None = Absent
known_built_in (Some c) = IsClass c
