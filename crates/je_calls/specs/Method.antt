-- A method whose calls are replaced, its shapes, and whether that can be done.
use Rattle.std.specs.Prelude.{◌≡◌, ℕ, ◌<◌, List, [], length, Some, Bool, option_map}
use Rattle.std.specs.Prelude.{slice_get, IsTrue}
use Rattle.std.specs.List.{AllZip}
use Rattle.je_consts.specs.declared.place.Place.{Place}
use Rattle.je_desc.specs.declared.types.MethodType.{MethodType}
use Rattle.je_desc.specs.Descriptor.{MethodTypes}
use Rattle.je_desc.specs.Types.{method_types_of}
use Rattle.je_machine.specs.Value.{kind_of}
use Rattle.je_machine.specs.Operation.{Operation, Program}
use Rattle.je_instr.specs.declared.program.Program as code
use Rattle.je_instr.specs.CodeProgram.{IsHandlerOf, parameters_of}
use Rattle.je_instr.specs.Resolves.{Resolves}
use Rattle.je_shape.specs.Entry.{entry_of}
use Rattle.je_shape.specs.Least.{Method, Assignment}
use Rattle.je_keep.specs.MethodCode.{AreFaultless}
use Rattle.je_calls.specs.declared.rule.Rule.{Rule}
use Rattle.je_calls.specs.Chosen.{is_reached, IsReplaceable}

-- A method of a class, by its instructions, and the rules for its calls.
pub record Task : Type 0 where
  pub class_name : List ℕ
  pub consts : List Place
  pub code : code.Program
  pub is_static : Bool
  pub is_init : Bool
  pub types : MethodTypes
  pub rules : List Rule

-- by what a call is given
abbrev pub task : List ℕ → List Place → code.Program → Bool → Bool → MethodType → List Rule → Task
task class_name consts program is_static is_init types rules =
    record {
      class_name = class_name;
      consts = consts;
      code = program;
      is_static = is_static;
      is_init = is_init;
      types = method_types_of types;
      rules = rules;
    }

-- The machine's program is the method's: its instructions and handlers, with what they name in
-- place, and the kinds of its parameters.
pub record IsProgramOf (t : Task) (program : Program) : Type 0 where
  pub operations : AllZip (Resolves t.consts) t.code.instrs program.operations
  pub handlers : AllZip (IsHandlerOf t.consts) t.code.handlers program.handlers
  pub parameters : program.parameters ≡ parameters_of t.is_static t.types

-- The method as shapes speak of it. No frames are read: a StackMapTable, if there is one, plays no
-- part.
abbrev pub method_with : Task → Program → Method
method_with t program =
    record {
      class = t.class_name;
      program = program;
      entry = entry_of t.class_name t.is_static t.is_init t.types;
      frames = [];
      result = Some (option_map kind_of t.types.result);
    }

-- Each instruction that is reached and that a rule fits takes nothing from the stack and leaves
-- nothing there.
abbrev pub ArePlain : List Rule → Assignment → Program → Type 0
ArePlain rules x program = (at : ℕ) (operation : Operation)
    → slice_get program.operations at ≡ Some operation → IsTrue (is_reached (x at))
    → IsReplaceable rules operation

-- The method has an instruction, and shapes without a fault, and so it is with them.
pub record CanReplace (t : Task) (program : Program) : Type 0 where
  pub some : 0 < length t.code.instrs
  pub x : Assignment
  pub faultless : AreFaultless (method_with t program) x
  pub plain : ArePlain t.rules x program

-- some program is the method's, with which that can be done
abbrev pub IsReplaceableTask : Task → Type 0
IsReplaceableTask t = (program : Program) × IsProgramOf t program × CanReplace t program
