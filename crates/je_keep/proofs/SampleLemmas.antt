-- A small method that a class file has.
use Rattle.std.proofs.Common.{List, [], ◌∷◌, None, refl, arith}
use Rattle.je_consts.specs.Pool.{IsPool}
use Rattle.je_instr.specs.declared.instr.Instr.{Instr}
use Rattle.je_instr.specs.declared.instr.Instr.TheVariants as instr
use Rattle.je_instr.specs.declared.opcodes.TheConstants as op
use Rattle.je_instr.specs.CodeProgram.{CodeProgram}
use Rattle.je_instr.specs.Decoding.{Stands}
use Rattle.je_instr.specs.Forms.{size_of, push_form, fixed_form, member_form, form_at}
use Rattle.je_instr.specs.Opcodes.{simple_operations}
use Rattle.je_keep.specs.MethodCode.{IsMethodOf}
use Rattle.je_keep.specs.Sample.{nop_code, nop_method}

abbrev instrs : List Instr
instrs = instr.Simple op.NOP ∷ instr.Simple op.RETURN ∷ []

first : Stands [] nop_code.code 0 (instr.Simple op.NOP) 1
unfolding form_at size_of fixed_form push_form simple_operations
first = record { form = refl; allowed = refl }

second : Stands [] nop_code.code 1 (instr.Simple op.RETURN) 2
unfolding form_at size_of fixed_form member_form simple_operations
second = record { form = refl; allowed = refl }

program_is : CodeProgram [] nop_code.is_static nop_code.text nop_code.code [] nop_method.program
unfolding simple_operations
program_is =
    record {
      types = record { params = []; result = None };
      descriptor = (record { params = tt; result = tt; within = omega arith }, refl);
      parameters = refl;
      decoded = record {
        program = record { instrs = instrs; handlers = [] };
        offsets = 0 ∷ 1 ∷ 2 ∷ [];
      };
      decodes = record {
        located = instrs;
        starts = 0 ∷ 1 ∷ [];
        follow = (refl, 1, first, (refl, 2, second, refl));
        offsets = refl;
        instrs = (refl, (refl, tt));
        handlers = tt;
      };
      resolved = (
        record { allowed = first.allowed; becomes = refl },
        (record { allowed = second.allowed; becomes = refl }, tt),
      );
      handlers = tt;
    }

no_consts : IsPool []
no_consts = record { fits = tt; spaced = refl; names = tt; count = omega arith }

pub method_is : IsMethodOf nop_code nop_method
method_is =
    record {
      pool = no_consts;
      program = program_is;
      types = record { params = []; result = None };
      descriptor = (record { params = tt; result = tt; within = omega arith }, refl);
      entry = refl;
    }
