-- A small method that laws compute.
use Rattle.std.specs.Prelude.{[], ◌∷◌, true, false, codes, None}
use Rattle.je_machine.specs.Operation.{Do, Nop, Return}
use Rattle.je_instr.specs.declared.opcodes.TheConstants as op
use Rattle.je_shape.specs.Least.{Method}
use Rattle.je_shape.specs.Sample.{plain_method}
use Rattle.je_keep.specs.MethodCode.{MethodCode}

-- nop and return, in a static method without parameters
abbrev pub nop_code : MethodCode
nop_code =
    record {
      consts = [];
      is_static = true;
      is_init = false;
      text = codes "()V";
      code = op.NOP ∷ op.RETURN ∷ [];
      table = [];
    }

abbrev pub nop_method : Method
nop_method = plain_method (Do Nop ∷ Return None ∷ [])
