-- Values as plain data: each has a form.
use Rattle.std.specs.Prelude.{◌≡◌, ℕ, List, refl}
use Rattle.std.specs.Coded.{Coded, code_by, coded_ℕ, coded_list}
use Rattle.je_machine.specs.Value as machine
use Rattle.je_value.specs.Value.{value_in}
use Rattle.je_value.specs.declared.value.ValueForm.{ValueForm}
use Rattle.je_value.specs.declared.value.ValueForm.TheVariants as forms
use Rattle.je_value.specs.contracts.value.ValueForm.{the_row}

-- the form of a value
abbrev pub value_back : machine.Value → ValueForm
value_back (machine.Int n) = forms.Int n
value_back (machine.Long n) = forms.Long n
value_back (machine.Flt bits) = forms.Float bits
value_back (machine.Dbl bits) = forms.Double bits
value_back machine.Null = forms.Null
value_back (machine.Obj number) = forms.Object number
value_back (machine.Const content) = forms.Constant content

pub value_is_back : (v : machine.Value) → value_in (value_back v) ≡ v
value_is_back (machine.Int n) = refl
value_is_back (machine.Long n) = refl
value_is_back (machine.Flt bits) = refl
value_is_back (machine.Dbl bits) = refl
value_is_back machine.Null = refl
value_is_back (machine.Obj number) = refl
value_is_back (machine.Const content) = refl

abbrev pub value_code : Coded machine.Value
value_code = code_by ValueForm the_row.coded value_back value_in value_is_back

-- a text is stored as the list of its bytes
abbrev pub text_code : Coded (List ℕ)
text_code = coded_list coded_ℕ
