-- The values of the definitions, and the forms that the program has of them.
use Rattle.je_machine.specs.Value as machine
use Rattle.je_value.specs.declared.value.ValueForm.{ValueForm}
use Rattle.je_value.specs.declared.value.ValueForm.TheVariants as forms

-- the value of a form
abbrev pub value_in : ValueForm → machine.Value
value_in (forms.Int n) = machine.Int n
value_in (forms.Long n) = machine.Long n
value_in (forms.Float bits) = machine.Flt bits
value_in (forms.Double bits) = machine.Dbl bits
value_in forms.Null = machine.Null
value_in (forms.Object number) = machine.Obj number
value_in (forms.Constant content) = machine.Const content
