-- The actions of the definitions, and the forms that the program has of them.
use Rattle.je_machine.specs.Action as machine
use Rattle.je_value.specs.Calculation.{calculation_in}
use Rattle.je_value.specs.declared.action.Element.{Element}
use Rattle.je_value.specs.declared.action.Element.TheVariants as elements
use Rattle.je_value.specs.declared.action.Sort.{Sort}
use Rattle.je_value.specs.declared.action.Sort.TheVariants as sorts
use Rattle.je_value.specs.declared.action.ActionForm.{ActionForm}
use Rattle.je_value.specs.declared.action.ActionForm.TheVariants as forms

-- the elements of a form
abbrev pub element_in : Element → machine.Element
element_in elements.Bytes = machine.Bytes
element_in elements.Chars = machine.Chars
element_in elements.Shorts = machine.Shorts
element_in elements.Ints = machine.Ints
element_in elements.Longs = machine.Longs
element_in elements.Floats = machine.Floats
element_in elements.Doubles = machine.Doubles
element_in elements.References = machine.References

-- the sort of a form
abbrev pub sort_in : Sort → machine.Sort
sort_in sorts.Virtual = machine.Virtual
sort_in sorts.Special = machine.Special
sort_in sorts.Static = machine.Static
sort_in sorts.Interface = machine.Interface
sort_in sorts.Dynamic = machine.Dynamic

-- the action of a form
abbrev pub action_in : ActionForm → machine.Action
action_in (forms.Calculate calculation) = machine.Calculate (calculation_in calculation)
action_in (forms.FloatOperation opcode operands kind) =
    machine.FloatOperation opcode operands kind
action_in forms.ArrayLength = machine.ArrayLength
action_in (forms.LoadElement element) = machine.LoadElement (element_in element)
action_in (forms.StoreElement element) = machine.StoreElement (element_in element)
action_in (forms.GetField field) = machine.GetField field
action_in (forms.PutField field) = machine.PutField field
action_in (forms.GetStatic field) = machine.GetStatic field
action_in (forms.PutStatic field) = machine.PutStatic field
action_in (forms.Invoke sort method types) = machine.Invoke (sort_in sort) method types
action_in (forms.New class) = machine.New class
action_in (forms.NewArray of dimensions) = machine.NewArray of dimensions
action_in (forms.CheckCast class) = machine.CheckCast class
action_in (forms.InstanceOf class) = machine.InstanceOf class
action_in forms.MonitorEnter = machine.MonitorEnter
action_in forms.MonitorExit = machine.MonitorExit
