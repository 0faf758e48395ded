-- Small pieces of code do what is meant.
use Rattle.std.proofs.Common.{◌≡◌, ℕ, ◌+◌, List, [], length, Option, Some, None, Bool, ◌&&◌, option_map, refl, sym, ap, subst, ◌∙◌}
use Rattle.je_consts.specs.declared.place.Place.{Place}
use Rattle.je_desc.specs.Descriptor.{MethodTypes}
use Rattle.je_machine.specs.Content.{Content}
use Rattle.je_machine.specs.Value.{Kind, Value, zero_of, admit_all, value_at, is_null}
use Rattle.je_machine.specs.Classes.{Classes}
use Rattle.je_machine.specs.Outside.{Outside, Response, Gave, Threw, Waits}
use Rattle.je_machine.specs.Action.{Action, Sort, Interface, Dynamic, Invoke, operands_of, result_of, has_target}
use Rattle.je_machine.specs.Acting.{answer, unless_null, admit_response, act}
use Rattle.je_machine.specs.Operation.{Basic, Act, Operation, Do}
use Rattle.je_machine.specs.Frame.{Frame, frame_of, popped, push, under, stacked}
use Rattle.je_machine.specs.Machine.{state_at}
use Rattle.je_instr.specs.declared.instr.Instr.{Instr}
use Rattle.je_instr.specs.declared.instr.Instr.TheVariants as instr
use Rattle.je_instr.specs.Resolves.{Resolves}
use Rattle.je_splice.specs.Block.{Block, Completes, Throws, Meant, Exits, Stays, Meaning}
use Rattle.je_splice.specs.Instead.{no_piece, one_piece, IsCall, meant_instead, empty_instead, proceed_instead, emptied, proceeded}
use Rattle.je_splice.specs.Means.{EndsAs, BlockMeans}
use Rattle.je_splice.specs.Laid.{FitsAnywhere}
use Rattle.je_splice.specs.Resolved.{IsBlockOf, PieceMeans}
use Rattle.je_splice.specs.Sample.{no_code, nothing, one_instruction, meant_by, proceeding}
use Rattle.je_splice.proofs.BlockLemmas.{nothing_means, proceed_means}

pub nothing_piece : (consts : List Place) (limit : ℕ) (ok : Frame → Bool) → PieceMeans consts limit ok no_piece nothing
nothing_piece consts limit ok = record {
  block = no_code;
  is_block = record { code = tt; handlers = tt };
  means = nothing_means limit ok;
  within = tt;
}

pub proceed_piece : (consts : List Place) (limit : ℕ) (ok : Frame → Bool) (i : Instr) (basic : Basic) → Resolves consts i (Do basic) → PieceMeans consts limit ok (one_piece i) (proceeding basic)
proceed_piece consts limit ok i basic r = record {
  block = one_instruction basic;
  is_block = record { code = (r, tt); handlers = tt };
  means = proceed_means limit ok basic;
  within = tt;
}

pub no_block : (consts : List Place) → IsBlockOf consts no_piece no_code
no_block consts = record { code = tt; handlers = tt }

pub one_block : (consts : List Place) (i : Instr) (basic : Basic) → Resolves consts i (Do basic) → IsBlockOf consts (one_piece i) (one_instruction basic)
one_block consts i basic r = record { code = (r, tt); handlers = tt }

pub call_is : (consts : List Place) (i : Instr) (o : Operation) → IsCall i → Resolves consts i o
    → (sort : Sort) × (method : Content) × (types : MethodTypes) × (o ≡ Do (Act (Invoke sort method types)))
call_is consts (instr.Invoke opcode index) o is r = let (sort, s, named) = r.becomes in let (c, here, called) = named in let (types, calls, e) = called in (sort, c, types, e)
call_is consts (instr.InvokeInterface index count) o is r = let (c, here, called) = r.becomes in let (types, calls, e) = called in (Interface, c, types, e)
call_is consts (instr.InvokeDynamic index) o is r = let (c, here, called) = r.becomes in let (types, calls, e) = called in (Dynamic, c, types, e)
call_is consts _ o is r = absurd is

-- ---- in place of an action

-- what is meant alike is done alike
same_means : (limit : ℕ) (ok : Frame → Bool) (b : Block) (f g : Classes → Meaning) → ((classes : Classes) (bound : ℕ) (frame : Frame) (outside : Outside) → f classes bound frame outside ≡ g classes bound frame outside)
    → BlockMeans limit ok b f → BlockMeans limit ok b g
same_means limit ok b f g same means = record {
  by = λ q classes at outer holds bound stack locals own outside fine agree.
      subst (EndsAs q classes (at + length b.code) outer limit bound (state_at at (frame_of stack own) outside)) (same classes bound (frame_of stack locals) outside)
      (means.by q classes at outer holds bound stack locals own outside fine agree);
}

pub empty_means : (limit : ℕ) (ok : Frame → Bool) (action : Action) → operands_of action ≡ [] → result_of action ≡ None → BlockMeans limit ok no_code (empty_instead action)
empty_means limit ok action operands result =
    same_means limit ok no_code nothing (empty_instead action)
    (λ classes bound frame outside.
    ap (λ (ks : List Kind). Exits (Completes (under (length ks) frame.stack)) bound frame.locals outside) (sym operands)
    ∙ ap (λ (k : Option Kind). Exits (Completes (push (option_map zero_of k) (under (length (operands_of action)) frame.stack))) bound frame.locals outside) (sym result))
    (nothing_means limit ok)

-- by the result's kind and what is done
abbrev left_by : Option Kind → List Value → ℕ → List Value → Response → Meant
left_by k rest bound locals (Gave value outside) = Exits (Completes (push (option_map zero_of k) rest)) bound locals outside
left_by k rest bound locals (Threw reference outside) = Exits (Throws reference) bound locals outside
left_by k rest bound locals (Waits outside) = Stays bound locals outside

same_left : (k : Option Kind) (rest : List Value) (bound : ℕ) (locals : List Value) (r : Response) → k ≡ None
    → meant_by bound locals (stacked rest (admit_response k r)) ≡ left_by k rest bound locals (admit_response k r)
same_left None rest bound locals (Gave value outside) e = refl
same_left None rest bound locals (Threw reference outside) e = refl
same_left None rest bound locals (Waits outside) e = refl
same_left (Some k) rest bound locals r e = absurd cc

is_left : (action : Action) (bound : ℕ) (frame : Frame) (r : Response) → left_by (result_of action) (under (length (operands_of action)) frame.stack) bound frame.locals r ≡ meant_instead action bound frame r
is_left action bound frame (Gave value outside) = refl
is_left action bound frame (Threw reference outside) = refl
is_left action bound frame (Waits outside) = refl

pub itself_means : (limit : ℕ) (ok : Frame → Bool) (action : Action) → result_of action ≡ None → BlockMeans limit ok (one_instruction (Act action)) (proceed_instead action)
itself_means limit ok action result =
    same_means limit ok (one_instruction (Act action)) (proceeding (Act action)) (proceed_instead action)
    (λ classes bound frame outside.
    let taken = popped (length (operands_of action)) frame.stack in
    same_left (result_of action) (under (length (operands_of action)) frame.stack) bound frame.locals
    (unless_null (has_target action && is_null (value_at (admit_all (operands_of action) taken) 0)) (answer classes action (admit_all (operands_of action) taken) outside) outside) result
    ∙ is_left action bound frame (act classes action taken outside))
    (proceed_means limit ok (Act action))

pub emptied_fits : (limit : ℕ) (action : Action) → operands_of action ≡ [] → result_of action ≡ None → FitsAnywhere limit (emptied action)
emptied_fits limit action operands result = record { means = λ ok. empty_means limit ok action operands result; within = tt }

pub proceeded_fits : (limit : ℕ) (action : Action) → result_of action ≡ None → FitsAnywhere limit (proceeded action)
proceeded_fits limit action result = record { means = λ ok. itself_means limit ok action result; within = tt }
