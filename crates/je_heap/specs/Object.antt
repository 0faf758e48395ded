-- The objects of the definitions, and the forms that the program has of them.
use Rattle.std.specs.Prelude.{ℕ, slice_set}
use Rattle.std.specs.FinMap.{insert}
use Rattle.je_machine.specs.Value.{Value}
use Rattle.je_machine.specs.Heap.{FieldKey, narrowed}
use Rattle.je_machine.specs.Heap as machine
use Rattle.je_heap.specs.declared.object.ObjectForm.{ObjectForm}
use Rattle.je_heap.specs.declared.object.ObjectForm.TheVariants as forms

-- the object of a form
abbrev pub object_in : ObjectForm → machine.Object
object_in (forms.Instance class fields) = machine.Instance class fields
object_in (forms.Array type elements) = machine.Array type elements

-- an object with a field written; an array takes no field
abbrev pub field_put : FieldKey → Value → machine.Object → machine.Object
field_put key value (machine.Instance class fields) =
    machine.Instance class (insert fields key value)
field_put key value object = object

-- an object with an element written; what is no array takes none
abbrev pub element_put : ℕ → Value → machine.Object → machine.Object
element_put i value (machine.Array type elements) =
    machine.Array type (slice_set elements i (narrowed type value))
element_put i value object = object
