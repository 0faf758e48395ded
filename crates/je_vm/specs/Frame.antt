-- What instructions come to, in the definitions and in the program's forms.
use Rattle.je_machine.specs.Frame as machine
use Rattle.je_vm.specs.declared.frame.Stacked.{Stacked}
use Rattle.je_vm.specs.declared.frame.Stacked.TheVariants as stacks
use Rattle.je_vm.specs.declared.frame.Flow.{Flow}
use Rattle.je_vm.specs.declared.frame.Flow.TheVariants as flows

-- what a basic operation came to, as the definition has it
abbrev pub stacked_of : Stacked → machine.Stacked
stacked_of (stacks.Stands stack outside) = machine.Stands stack outside
stacked_of (stacks.Breaks reference outside) = machine.Breaks reference outside
stacked_of (stacks.Stalls outside) = machine.Stalls outside

-- where an instruction leads, as the definition has it
abbrev pub flow_in : Flow → machine.Flow
flow_in (flows.Falls frame outside) = machine.Falls frame outside
flow_in (flows.Jumps target frame outside) = machine.Jumps target frame outside
flow_in (flows.Leaves result outside) = machine.Leaves result outside
flow_in (flows.Raises reference outside) = machine.Raises reference outside
flow_in (flows.Halts outside) = machine.Halts outside
