-- A method whose calls are replaced.
use Rattle.std.specs.Prelude.{◌≡◌, ℕ, suc, List, [], length}
use Rattle.je_machine.specs.Operation as machine
use Rattle.je_instr.specs.declared.instr.Instr.{Instr}
use Rattle.je_instr.specs.declared.program.Handler.{Handler}
use Rattle.je_instr.specs.declared.program.Program.{Program}
use Rattle.je_shape.specs.Least.{Assignment}
use Rattle.je_keep.specs.MethodCode.{AreFaultless}
use Rattle.je_splice.specs.Block.{Piece}
use Rattle.je_splice.specs.InstrCodes.{instr_codes}
use Rattle.je_splice.specs.Layout.{Item, laid_code, laid_handlers}
use Rattle.je_splice.specs.Marks.{Marks, marked_items, marked_handlers, new_index}
use Rattle.je_splice.specs.Put.{replacements, marks_of}
use Rattle.je_put.specs.declared.block.Block.{Block}
use Rattle.je_put.specs.Placing.{completes}
use Rattle.je_put.specs.Result.{pieces, Lists}
use Rattle.je_calls.specs.declared.replace.Replaced.{Replaced}
use Rattle.je_calls.specs.declared.rule.Choice.{Choice}
use Rattle.je_calls.specs.Blocks.{blocks_of}
use Rattle.je_calls.specs.Chosen.{choices_from, chosen_at, matched}
use Rattle.je_calls.specs.Method.{Task, IsProgramOf, method_with, ArePlain}
use Rattle.je_calls.specs.RefRun.{Agrees}

-- ---- the code

-- each in the place of its instruction
abbrev pub new_marks : Program → List Choice → Marks Block Handler
new_marks p choices =
    marks_of (λ h. h.target) completes (replacements 0 (blocks_of p.instrs choices)) []

abbrev pub new_items : Program → List Choice → List (Item Instr (Piece Instr Handler))
new_items p choices = pieces (marked_items instr_codes (new_marks p choices) p.instrs)

-- the program that has them there: jumps and entries of the exception table lead to where what
-- stood at an index begins, and an entry that covers nothing any more is left out
abbrev pub new_program : Program → List Choice → Program
new_program p choices =
    record {
      instrs = laid_code instr_codes (new_items p choices);
      handlers = laid_handlers instr_codes (new_items p choices)
          (marked_handlers instr_codes (new_marks p choices) p.handlers);
    }

-- where what stands at an old index begins; the end goes to the end
abbrev pub new_place : Program → List Choice → ℕ → ℕ
new_place p choices = new_index (new_marks p choices) (new_items p choices)

-- ---- the whole

-- the same method with other code
abbrev pub with_code : Task → Program → Task
with_code t code = record t { code = code }

-- By the least shapes of the method it is known what is reached. What is answered is the program in
-- which instructions that are not are left out and the calls that the rules choose give way, with
-- where old indexes went, and how many calls were chosen; and it does what the old one does with
-- the fragments.
pub record IsReplaced (t : Task) (program : machine.Program) (r : Replaced) : Type 0 where
  pub x : Assignment
  pub faultless : AreFaultless (method_with t program) x
  pub plain : ArePlain t.rules x program
  pub code : r.program ≡ new_program t.code (choices_from t.rules x 0 program.operations)
  pub new_of :
      Lists (new_place t.code (choices_from t.rules x 0 program.operations))
      (suc (length t.code.instrs)) r.new_of
  pub count : r.count ≡ matched program x t.rules
  pub agrees : (new : machine.Program) → IsProgramOf (with_code t r.program) new
      → Agrees program (chosen_at program x t.rules) new
