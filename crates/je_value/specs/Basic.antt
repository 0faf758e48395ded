-- What works on the stack and the outside alone, in the definitions and in the program's forms.
use Rattle.je_machine.specs.Operation as machine
use Rattle.je_value.specs.declared.basic.BasicForm.{BasicForm}
use Rattle.je_value.specs.declared.basic.BasicForm.TheVariants as basics

-- what works on the stack and the outside alone, of a form
abbrev pub basic_in : BasicForm → machine.Basic
basic_in basics.Nop = machine.Nop
basic_in (basics.Push value) = machine.Push value
basic_in (basics.Drop places) = machine.Drop places
basic_in (basics.Copy places under) = machine.Copy places under
basic_in basics.Swap = machine.Swap
basic_in (basics.Act action) = machine.Act action
basic_in basics.Throw = machine.Throw
