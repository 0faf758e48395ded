-- The words of the table of built-in classes: types, members and classes.
use Rattle.std.specs.Prelude.{ℕ, List, [], ◌∷◌, map, Option, Some, None, codes}
use Rattle.je_desc.specs.FieldType.{FieldType, descriptor}
use Rattle.je_desc.specs.Descriptor.{MethodTypes, method_descriptor}
use Rattle.je_desc.specs.declared.summary.MemberSig.{MemberSig}
use Rattle.je_desc.specs.declared.summary.Summary.{Summary}
use Rattle.je_world.specs.Question.{Name}

-- ---- what a line says

-- a field: its access flags (JVMS SE 8 4.5), its name and its type
pub record FieldLine : Type 0 where
  pub access : ℕ
  pub name : List ℕ
  pub type : FieldType

-- a method: its access flags (JVMS SE 8 4.6), its name and its types
pub record MethodLine : Type 0 where
  pub access : ℕ
  pub name : List ℕ
  pub types : MethodTypes

-- a class or an interface, with its access flags (JVMS SE 8 4.1)
pub record ClassLine : Type 0 where
  pub name : Name
  pub super_name : Option Name
  pub interfaces : List Name
  pub access : ℕ
  pub fields : List FieldLine
  pub methods : List MethodLine

-- ---- what it stands for

-- the field with its descriptor (JVMS SE 8 4.3.2)
abbrev pub field_of : FieldLine → MemberSig
field_of f = record { access = f.access; name = f.name; descriptor = descriptor f.type }

-- the method with its descriptor (JVMS SE 8 4.3.3)
abbrev pub method_of : MethodLine → MemberSig
method_of m = record { access = m.access; name = m.name; descriptor = method_descriptor m.types }

-- the class as other classes see it
abbrev pub summary_of : ClassLine → Summary
summary_of c = record {
  name = c.name;
  super_name = c.super_name;
  interfaces = c.interfaces;
  access = c.access;
  fields = map field_of c.fields;
  methods = map method_of c.methods;
}

-- ---- access flags

-- ACC_PUBLIC, of a member (Tables 4.5-A and 4.6-A)
abbrev pub access_public : ℕ
access_public = 0x0001

-- with ACC_STATIC
abbrev pub access_static : ℕ
access_static = 0x0009

-- a method's ACC_PUBLIC with ACC_ABSTRACT
abbrev pub access_abstract : ℕ
access_abstract = 0x0401

-- a class's ACC_PUBLIC and ACC_SUPER (Table 4.1-A)
abbrev pub access_class : ℕ
access_class = 0x0021

-- with ACC_ABSTRACT
abbrev pub access_abstract_class : ℕ
access_abstract_class = 0x0421

-- an interface's ACC_PUBLIC, ACC_INTERFACE and ACC_ABSTRACT
abbrev pub access_interface : ℕ
access_interface = 0x0601

-- ---- members

-- an instance method of these parameters with this result
abbrev pub method : List ℕ → List FieldType → FieldType → MethodLine
method name params result = record {
  access = access_public;
  name = name;
  types = record { params = params; result = Some result };
}

-- one without result
abbrev pub void_method : List ℕ → List FieldType → MethodLine
void_method name params = record {
  access = access_public;
  name = name;
  types = record { params = params; result = None };
}

-- a constructor (JVMS SE 8 2.9)
abbrev pub constructor : List FieldType → MethodLine
constructor params = void_method (codes "<init>") params

abbrev pub static_method : List ℕ → List FieldType → FieldType → MethodLine
static_method name params result = record (method name params result) { access = access_static }

-- a method of an interface
abbrev pub abstract_method : List ℕ → List FieldType → FieldType → MethodLine
abstract_method name params result =
    record (method name params result) { access = access_abstract }

abbrev pub abstract_void_method : List ℕ → List FieldType → MethodLine
abstract_void_method name params =
    record (void_method name params) { access = access_abstract }

abbrev pub static_field : List ℕ → FieldType → FieldLine
static_field name type = record { access = access_static; name = name; type = type }

-- ---- classes

-- the class above all others
abbrev pub object_name : Name
object_name = codes "java/lang/Object"

-- a class right below another one
abbrev pub class_below :
    Name → Name → List Name → List FieldLine → List MethodLine → ClassLine
class_below above name interfaces fields methods = record {
  name = name;
  super_name = Some above;
  interfaces = interfaces;
  access = access_class;
  fields = fields;
  methods = methods;
}

-- a class right below Object
abbrev pub class : Name → List Name → List FieldLine → List MethodLine → ClassLine
class name interfaces fields methods = class_below object_name name interfaces fields methods

abbrev pub abstract_class : Name → List Name → List MethodLine → ClassLine
abstract_class name interfaces methods =
    record (class name interfaces [] methods) { access = access_abstract_class }

abbrev pub interface : Name → List MethodLine → ClassLine
interface name methods = record (class name [] [] methods) { access = access_interface }

-- what is thrown, right below another such class: it has two constructors
abbrev pub thrown_below : Name → Name → List FieldType → ClassLine
thrown_below above name message =
    class_below above name [] [] (constructor [] ∷ constructor message ∷ [])
