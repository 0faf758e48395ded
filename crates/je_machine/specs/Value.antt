-- Values of the machine (JVMS 2.3 and 2.4).
use Rattle.std.specs.Prelude.{ℕ, zero, suc, ◌^◌, ℤ, pos, List, [], ◌∷◌, Bool, true, false, nat_lt}
use Rattle.std.specs.Prelude.{nat_eq, if◌then◌else◌}
use Rattle.std.specs.Ordering.{int_eq}
use Rattle.std.specs.Int.{w32, w64, int_wrap}
use Rattle.je_desc.specs.FieldType.{FieldType, Base, Object, Array}
use Rattle.je_desc.specs.FieldType as types
use Rattle.je_machine.specs.Content.{Content, is_loadable, is_same_loaded}

-- The computational types (JVMS 2.11.1): int stands for boolean, byte, char and short too.
pub data Kind : Type 0 where
  IntKind : Kind
  LongKind : Kind
  FloatKind : Kind
  DoubleKind : Kind
  ReferenceKind : Kind

-- the kind of the values of a type
abbrev pub kind_of : FieldType → Kind
kind_of (Base types.Long) = LongKind
kind_of (Base types.Float) = FloatKind
kind_of (Base types.Double) = DoubleKind
kind_of (Base _) = IntKind
kind_of (Object name) = ReferenceKind
kind_of (Array component) = ReferenceKind

-- A value. A float or double is kept as its bits. A reference is null, the object of that number on
-- the heap, or a constant that was loaded: a class, a string, a method handle or a method type.
-- Constants of equal content are one reference.
pub data Value : Type 0 where
  Int : (value : ℤ) → Value
  Long : (value : ℤ) → Value
  Flt : (bits : ℕ) → Value
  Dbl : (bits : ℕ) → Value
  Null : Value
  Obj : (number : ℕ) → Value
  Const : (content : Content) → Value

-- the default value of a kind (JVMS 2.3 and 2.4)
abbrev pub zero_of : Kind → Value
zero_of IntKind = Int (pos 0)
zero_of LongKind = Long (pos 0)
zero_of FloatKind = Flt 0
zero_of DoubleKind = Dbl 0
zero_of ReferenceKind = Null

-- the value is of the kind, and within the range of its type
abbrev pub is_of_kind : Kind → Value → Bool
is_of_kind IntKind (Int n) = int_eq (int_wrap w32 n) n
is_of_kind LongKind (Long n) = int_eq (int_wrap w64 n) n
is_of_kind FloatKind (Flt bits) = nat_lt bits (2 ^ 32)
is_of_kind DoubleKind (Dbl bits) = nat_lt bits (2 ^ 64)
is_of_kind ReferenceKind Null = true
is_of_kind ReferenceKind (Obj number) = true
is_of_kind ReferenceKind (Const content) = is_loadable content
is_of_kind _ _ = false

-- A value that enters the machine: one that is not of the kind wanted counts as the zero of that
-- kind.
abbrev pub admit : Kind → Value → Value
admit kind value = if is_of_kind kind value then value else zero_of kind

-- as many values as there are kinds, each of its kind; one that is not given counts as zero
abbrev pub admit_all : List Kind → List Value → List Value
admit_all [] values = []
admit_all (kind ∷ kinds) [] = zero_of kind ∷ admit_all kinds []
admit_all (kind ∷ kinds) (value ∷ values) = admit kind value ∷ admit_all kinds values

-- ---- total functions that take a value apart

-- the number of an int or a long, and 0 of every other value
abbrev pub number_of : Value → ℤ
number_of (Int n) = n
number_of (Long n) = n
number_of _ = pos 0

abbrev pub is_null : Value → Bool
is_null Null = true
is_null _ = false

-- two values are one reference (JVMS 6.5, if_acmp)
abbrev pub is_same_reference : Value → Value → Bool
is_same_reference Null Null = true
is_same_reference (Obj a) (Obj b) = nat_eq a b
is_same_reference (Const a) (Const b) = is_same_loaded a b
is_same_reference _ _ = false

-- the places that a value takes on the stack or in local variables (JVMS 2.6.1 and 2.6.2)
abbrev pub places_of : Value → ℕ
places_of (Long n) = 2
places_of (Dbl bits) = 2
places_of _ = 1

-- the value at an index of a list, and Int 0 behind the list's end
abbrev pub value_at : List Value → ℕ → Value
value_at [] i = Int (pos 0)
value_at (value ∷ values) zero = value
value_at (value ∷ values) (suc i) = value_at values i
