-- Which bytes are descriptors of fields and of methods (JVMS SE 8, 4.3.2 and 4.3.3).
use Rattle.std.specs.Prelude.{◌≡◌, ℕ, ◌+◌, ◌≤◌, ◌⊎◌, List, [], ◌∷◌, ◌++◌}
use Rattle.std.specs.Prelude.{Option, Some, None, IfSome, IsBitSet}
use Rattle.std.specs.List.{flat_map, sum_by, AllByRecursion}
use Rattle.je_base.specs.Ascii.{left_parenthesis, right_parenthesis, letter_V}
use Rattle.je_desc.specs.FieldType.{Long, Double, FieldType, Base, IsFieldType, descriptor}

-- the bytes are the descriptor of this type
abbrev pub SpellsField : List ℕ → FieldType → Type 0
SpellsField bytes t = IsFieldType t × (bytes ≡ descriptor t)

-- the bytes are a field descriptor
abbrev pub FieldDescriptor : List ℕ → Type 0
FieldDescriptor bytes = (t : FieldType) × SpellsField bytes t

-- the units of a parameter: two for long and double, one for every other type
abbrev pub units_of : FieldType → ℕ
units_of (Base Long) = 2
units_of (Base Double) = 2
units_of _ = 1

-- VoidDescriptor `V`, or the descriptor of a type
abbrev pub return_descriptor : Option FieldType → List ℕ
return_descriptor None = letter_V ∷ []
return_descriptor (Some t) = descriptor t

-- the types of a method's parameters and of its result; where it has no result it is void
pub record MethodTypes : Type 0 where
  pub params : List FieldType
  pub result : Option FieldType

-- the units of all parameters; an instance method's `this` is none of them, and its unit is not
-- counted here
abbrev pub units_of_params : MethodTypes → ℕ
units_of_params m = sum_by units_of m.params

-- the most units that the parameters of a method have
abbrev pub most_units : ℕ
most_units = 255

-- types of a method that has a descriptor: its parameters have at most 255 units
pub record IsMethodTypes (m : MethodTypes) : Type 0 where
  pub params : AllByRecursion IsFieldType m.params
  pub result : IfSome m.result IsFieldType
  pub within : units_of_params m ≤ most_units

-- `(` ParameterDescriptor* `)` ReturnDescriptor
abbrev pub method_descriptor : MethodTypes → List ℕ
method_descriptor m =
    left_parenthesis
    ∷ (flat_map descriptor m.params ++ right_parenthesis ∷ return_descriptor m.result)

-- the bytes are the descriptor of a method of these types
abbrev pub SpellsMethod : List ℕ → MethodTypes → Type 0
SpellsMethod bytes m = IsMethodTypes m × (bytes ≡ method_descriptor m)

-- the bytes are a method descriptor, whose parameters have so many units
abbrev pub MethodDescriptor : List ℕ → ℕ → Type 0
MethodDescriptor bytes n = (m : MethodTypes) × SpellsMethod bytes m × (n ≡ units_of_params m)

-- the bit of the access flags that says that a method is static (JVMS 4.6, Table 4.6-A)
abbrev pub acc_static : ℕ
acc_static = 3

-- The descriptor of a method with these access flags. Its parameters have at most 255 units, and
-- `this` is one of them unless the method is static (JVMS 4.3.3).
abbrev pub IsDescriptorOf : ℕ → List ℕ → Type 0
IsDescriptorOf access text =
    (n : ℕ) × MethodDescriptor text n × (IsBitSet access acc_static ⊎ (n + 1 ≤ most_units))
