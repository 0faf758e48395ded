-- Questions over a few classes, which laws compute.
use Rattle.std.specs.Prelude.{List, [], ◌∷◌, Some, Result, codes}
use Rattle.je_desc.specs.FieldType.{FieldType, Base, Object, Array, Int}
use Rattle.je_world.specs.declared.link.Link.{Link}
use Rattle.je_world.specs.Question.{Name, Known, IsClass, Question, answer_by, names_by}
use Rattle.je_world.specs.Sample.{samples, lies_in, object, i}

-- an interface
abbrev pub face : Name
face = codes "Face"

-- the classes of the samples of worlds, and that interface
abbrev pub classes : List (Name × Known)
classes = (
  face,
  IsClass (record {
    name = face;
    super_name = Some object;
    interfaces = i ∷ [];
    access = 0x0601;
    fields = [];
    methods = [];
  }),
)
    ∷ samples

-- the names that are looked at, in order, and the answer
abbrev pub asked_of : {A : Type 0} → Question (Result A Link) → List Name × Result A Link
asked_of q = (names_by (lies_in classes) q, answer_by (lies_in classes) q)

abbrev pub cloneable : Name
cloneable = codes "java/lang/Cloneable"

abbrev pub serializable : Name
serializable = codes "java/io/Serializable"

abbrev pub ints : FieldType
ints = Array (Base Int)

-- arrays of a class or interface
abbrev pub array_of : Name → FieldType
array_of name = Array (Object name)
