-- Serves private functions: what the readers of a class file answer, which parts stand at an
-- offset, or the first one that does not.
use Rattle.std.specs.Prelude.{◌≡◌, ℕ, ◌⊎◌, List, [], ◌∷◌, Result, Ok, Err}
use Rattle.je_base.specs.Parts as form
use Rattle.je_base.specs.Parts.{U2}
use Rattle.je_consts.specs.declared.place.Place.{Place}
use Rattle.je_class.specs.declared.check.Sought.{Sought}
use Rattle.je_class.specs.declared.check.Sought.TheVariants as sought
use Rattle.je_class.specs.declared.members.Kind.{Kind}
use Rattle.je_class.specs.declared.members.Kind.TheVariants as kinds
use Rattle.je_class.specs.declared.fault.ClassFault.{ClassFault}
use Rattle.je_class.specs.declared.fault.ClassFault.TheVariants.{Memory}
use Rattle.je_class.specs.declared.member.Member.{Member}
use Rattle.je_class.specs.Class.{Class}
use Rattle.je_class.specs.FileParts.{Test, NamesClass, NamesSuper, NamesText, NamesAttribute}
use Rattle.je_class.specs.FileParts.{DescribesField, DescribesMethod, class_format, Part}
use Rattle.je_class.specs.FileParts.{member_parts, parts, class_parts}

-- what comes of reading the parts from an offset on
abbrev pub Comes : List ℕ → ℕ → List Part → Result ℕ ClassFault → Type 0
Comes bytes at parts answer = form.Comes class_format bytes at parts answer

-- What a function returned, seen by view, is a structure whose parts stand there, and their end;
-- or, unless memory ran out, the first fault of such parts.
abbrev pub Reads : {X A : Type 0}
    → (X → A × ℕ) → List ℕ → ℕ → (A → List Part) → Result X ClassFault → Type 0
Reads view bytes at parts (Ok x) = Comes bytes at (parts (view x).0) (Ok (view x).1)
Reads {A = A} view bytes at parts (Err fault) =
    (fault ≡ Memory) ⊎ ((y : A) × Comes bytes at (parts y) (Err fault))

-- ---- indexes and members

-- what is tested of an index that has to name this
abbrev pub tests_of : List Place → Sought → ℕ → List Test
tests_of consts sought.Class index = NamesClass consts index ∷ []
tests_of consts sought.ClassOrNone index = NamesSuper consts index ∷ []
tests_of consts sought.Text index = NamesText consts index ∷ []
tests_of consts sought.AttributeName index = NamesAttribute consts index ∷ []
tests_of consts sought.FieldDescriptor index =
    NamesText consts index ∷ DescribesField consts index ∷ []
tests_of consts (sought.MethodDescriptor access) index =
    NamesText consts index ∷ DescribesMethod consts access index ∷ []

abbrev pub index_parts : List Place → Sought → ℕ → List Part
index_parts consts names index = U2 index (tests_of consts names index) ∷ []

-- what the index of a member's descriptor has to name
abbrev pub descriptor_of : Kind → ℕ → Sought
descriptor_of kinds.Fields access = sought.FieldDescriptor
descriptor_of kinds.Methods access = sought.MethodDescriptor access

-- field_info or method_info
abbrev pub parts_of_kind : List Place → Kind → Member → List Part
parts_of_kind consts kind m =
    member_parts consts (tests_of consts (descriptor_of kind m.access) m.descriptor) m

-- the whole of a class file, which ends somewhere, or its first fault
abbrev pub ReadsClass : {X : Type 0} → (X → Class × ℕ) → List ℕ → Result X ClassFault → Type 0
ReadsClass view bytes (Ok x) = Comes bytes 0 (class_parts (view x).0) (Ok (view x).1)
ReadsClass view bytes (Err fault) =
    (fault ≡ Memory) ⊎ ((magic : ℕ) × (c : Class) × Comes bytes 0 (parts magic c) (Err fault))
