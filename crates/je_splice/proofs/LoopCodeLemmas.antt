-- The code of the method with a loop and two handlers is that method, and with its pieces the one with its blocks.
use Rattle.std.proofs.Common.{◌≡◌, ℕ, [], ◌∷◌, length, Some, None, true, is_some, refl, ap, arith}
use Rattle.std.specs.Prelude.{codes}
use Rattle.std.specs.List.{AllZip}
use Rattle.std.proofs.lemmas.List.Elements.{All-from_recursion}
use Rattle.je_desc.specs.Names.{IsNameByte, IsClassName}
use Rattle.je_machine.specs.Value.{IntKind}
use Rattle.je_machine.specs.Condition.{Zero, Equals}
use Rattle.je_machine.specs.Operation.{Nop, Drop, Act, Operation, Do, Load, Branch, Return, Program}
use Rattle.je_instr.specs.declared.instr.Instr.TheVariants.{Simple, Local}
use Rattle.je_instr.specs.declared.instr.Instr.TheVariants as instr
use Rattle.je_instr.specs.declared.opcodes.TheConstants as op
use Rattle.je_instr.specs.Callee.{IsCallable}
use Rattle.je_instr.specs.CodeProgram.{IsHandlerOf}
use Rattle.je_instr.specs.Opcodes.{simple_operations, simple_operation, local_operations, conditions}
use Rattle.je_instr.specs.Resolves.{Resolves}
use Rattle.je_instr.proofs.OpcodeLemmas.{callee_means}
use Rattle.je_splice.specs.Instead.{no_piece, one_piece}
use Rattle.je_splice.specs.InstrCodes.{instr_codes}
use Rattle.je_splice.specs.Laid.{Fragment}
use Rattle.je_splice.specs.Layout.{operation_codes}
use Rattle.je_splice.specs.Loop.{call, loop_method, loop_places, loop_entries, loop_marks, spliced_loop}
use Rattle.je_splice.specs.LoopCode.{loop_pool, call_instr, loop_code, loop_table, loop_pieces, entry_pieces, piece_marks, loop_items, spliced_code, spliced_table}
use Rattle.je_splice.specs.Marks.{marked_items, marked_handlers}
use Rattle.je_splice.specs.Resolved.{CodePiece, AreProgram, IsPutAs, AreMeant, AreMarksOf, IsPlacedAs, IsMetAs}
use Rattle.je_splice.specs.Sample.{empty_fragment, proceed_fragment}
use Rattle.je_splice.proofs.PutLemmas.{marks_put}
use Rattle.je_splice.proofs.ResolvedLemmas.{same_program, woven, marks_meant}

-- ---- instructions

class_named : IsClassName (codes "C")
class_named = (
  λ e. let n : length (codes "C") ≡ 0 = ap length e in absurd (omega (arith, n)),
  All-from_recursion IsNameByte (codes "C") ((λ e. absurd (omega (arith, e)), λ e. absurd (omega (arith, e)), λ e. absurd (omega (arith, e))), tt),
)

callable : IsCallable (codes "C") (codes "n") (codes "()V")
callable = record {
  class_name = class_named;
  no_constructor = λ e. let n : length (codes "n") ≡ length (codes "<init>") = ap length e in absurd (omega (arith, n));
  no_initialiser = λ e. let n : length (codes "n") ≡ length (codes "<clinit>") = ap length e in absurd (omega (arith, n));
  plain = refl;
}

pub call_is : Resolves loop_pool call_instr (Do (Act call))
call_is = (callee_means loop_pool 6 (codes "C") (codes "n") (codes "()V") refl callable (Do (Act call))).1 refl

simple_is : (opcode : ℕ) (o : Operation) → simple_operation opcode ≡ Some o → Resolves loop_pool (Simple opcode) o
simple_is opcode o e = record { allowed = ap is_some e; becomes = e }

pub nop_is : Resolves loop_pool (Simple op.NOP) (Do Nop)
unfolding simple_operations
nop_is = simple_is op.NOP (Do Nop) refl

pub pop_is : Resolves loop_pool (Simple op.POP) (Do (Drop 1))
unfolding simple_operations
pop_is = simple_is op.POP (Do (Drop 1)) refl

pub return_is : Resolves loop_pool (Simple op.RETURN) (Return None)
unfolding simple_operations
return_is = simple_is op.RETURN (Return None) refl

pub load_is : Resolves loop_pool (Local op.ILOAD 0) (Load IntKind 0)
unfolding local_operations
load_is = record { allowed = refl; becomes = refl }

branch_is : Resolves loop_pool (instr.Branch op.IFEQ 6) (Branch (Zero Equals) 6)
unfolding conditions
branch_is = record { allowed = refl; becomes = refl }

-- ---- the method

pub handlers_are : AllZip (IsHandlerOf loop_pool) loop_table loop_method.handlers
handlers_are = (
  record { start = refl; end = refl; target = refl; catches = refl },
  (record { start = refl; end = refl; target = refl; catches = refl }, tt),
)

pub loop_is : AreProgram loop_pool loop_code loop_table loop_method
loop_is = record {
  operations = (
    load_is,
    (
      branch_is,
      (call_is, (call_is, (record { allowed = tt; becomes = refl }, (record { allowed = tt; becomes = refl }, (return_is, (pop_is, (return_is, tt))))))),
    ),
  );
  handlers = handlers_are;
}

-- ---- the pieces

abbrev Put : CodePiece → Fragment → Type 0
Put = IsPutAs loop_pool (λ piece. piece) (λ fragment. fragment) (λ piece. true) (λ fragment. true)

nop_put : Put (one_piece (Simple op.NOP)) (proceed_fragment Nop)
nop_put = (record { code = (nop_is, tt); handlers = tt }, refl)

pop_put : Put (one_piece (Simple op.POP)) (proceed_fragment (Drop 1))
pop_put = (record { code = (pop_is, tt); handlers = tt }, refl)

call_put : Put (one_piece call_instr) (proceed_fragment (Act call))
call_put = (record { code = (call_is, tt); handlers = tt }, refl)

nothing_put : Put no_piece empty_fragment
nothing_put = (record { code = tt; handlers = tt }, refl)

placed : AllZip (IsPlacedAs loop_pool (λ piece. piece) (λ fragment. fragment) (λ piece. true) (λ fragment. true)) loop_pieces loop_places
placed = (
  record { at = refl; removed = refl; jumps = refl; piece = nop_put },
  (
    record { at = refl; removed = refl; jumps = refl; piece = call_put },
    (
      record { at = refl; removed = refl; jumps = refl; piece = nothing_put },
      (record { at = refl; removed = refl; jumps = refl; piece = nop_put }, tt),
    ),
  ),
)

met : AllZip (IsMetAs loop_pool (λ piece. piece) (λ fragment. fragment) (λ piece. true) (λ fragment. true) loop_table loop_method.handlers) entry_pieces loop_entries
met = (record { target = refl; meets = (refl, (refl, tt)); piece = pop_put }, tt)

pub marks_are : AreMarksOf loop_pool (λ piece. piece) (λ fragment. fragment) piece_marks loop_table loop_marks loop_method.handlers
marks_are = marks_put loop_pool (λ piece. piece) (λ fragment. fragment) (λ piece. true) (λ fragment. true) loop_table loop_method.handlers handlers_are loop_pieces loop_places placed entry_pieces loop_entries met

-- ---- in place

loop_meant : AreMeant loop_pool loop_items (marked_handlers instr_codes piece_marks loop_table) (marked_items operation_codes loop_marks loop_method.operations)
    (marked_handlers operation_codes loop_marks loop_method.handlers)
loop_meant = marks_meant loop_pool (λ piece. piece) (λ fragment. fragment) piece_marks loop_marks loop_code loop_table loop_method loop_is marks_are

pub spliced_is : AreProgram loop_pool spliced_code spliced_table spliced_loop
spliced_is =
    (woven loop_pool loop_items (marked_handlers instr_codes piece_marks loop_table)).is_program loop_method.parameters (marked_items operation_codes loop_marks loop_method.operations)
    (marked_handlers operation_codes loop_marks loop_method.handlers) loop_meant

pub only_spliced : (p : Program) → p.parameters ≡ IntKind ∷ [] → AreProgram loop_pool spliced_code spliced_table p → p ≡ spliced_loop
only_spliced p parameters is = same_program loop_pool spliced_code spliced_table p spliced_loop parameters is spliced_is
