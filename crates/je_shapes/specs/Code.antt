-- What the code of a method is, by its instructions and the constants of its class.
use Rattle.std.specs.Prelude.{List, Option, option_map}
use Rattle.std.specs.List.{AllZip}
use Rattle.je_consts.specs.declared.place.Place.{Place}
use Rattle.je_desc.specs.Types.{field_type_of}
use Rattle.je_desc.specs.declared.types.MethodType.{MethodType}
use Rattle.je_machine.specs.Value.{Kind, kind_of}
use Rattle.je_machine.specs.Operation as machine
use Rattle.je_instr.specs.declared.program.Program.{Program}
use Rattle.je_instr.specs.CodeProgram.{IsHandlerOf}
use Rattle.je_instr.specs.Resolves.{Resolves}

-- The machine's program has the operations that these instructions are, and these handlers, each
-- with what it names in place. Whatever the parameters are.
pub record HasCode (consts : List Place) (p : Program) (program : machine.Program) : Type 0 where
  pub operations : AllZip (Resolves consts) p.instrs program.operations
  pub handlers : AllZip (IsHandlerOf consts) p.handlers program.handlers

-- the kind of a method's result, or none of it, where its type is given
abbrev pub result_of : Option MethodType → Option (Option Kind)
result_of m = option_map (λ t. option_map (λ r. kind_of (field_type_of r)) t.result) m
