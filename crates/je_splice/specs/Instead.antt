-- Small pieces of code, and what fragments mean in place of an action.
use Rattle.std.specs.Prelude.{ℕ, [], ◌∷◌, length, Option, None, option_map}
use Rattle.je_machine.specs.Value.{Value, zero_of}
use Rattle.je_machine.specs.Classes.{Classes}
use Rattle.je_machine.specs.Action.{Action, operands_of, result_of}
use Rattle.je_machine.specs.Outside.{Response, Gave, Threw, Waits}
use Rattle.je_machine.specs.Acting.{act}
use Rattle.je_machine.specs.Frame.{Frame, popped, push, under}
use Rattle.je_machine.specs.Operation.{Act}
use Rattle.je_instr.specs.declared.instr.Instr.{Instr}
use Rattle.je_instr.specs.declared.instr.Instr.TheVariants.{Invoke, InvokeInterface, InvokeDynamic}
use Rattle.je_splice.specs.Block.{Completes, Throws, Meant, Exits, Stays, Meaning}
use Rattle.je_splice.specs.Laid.{Fragment}
use Rattle.je_splice.specs.Resolved.{CodePiece}
use Rattle.je_splice.specs.Sample.{no_code, one_instruction}

-- ---- pieces

abbrev pub no_piece : CodePiece
no_piece = record { code = []; handlers = [] }

-- the instruction itself, on the operands that are there
abbrev pub one_piece : Instr → CodePiece
one_piece i = record { code = i ∷ []; handlers = [] }

-- it calls a method
abbrev pub IsCall : Instr → Type 0
IsCall (Invoke opcode index) = Unit {0}
IsCall (InvokeInterface index count) = Unit {0}
IsCall (InvokeDynamic index) = Unit {0}
IsCall _ = ⊥

-- ---- fragments

-- the result that is left: what `$_` has, which begins as the zero of its kind
abbrev pub left_result : Action → Option Value
left_result action = option_map zero_of (result_of action)

-- What is meant in place of an action, by what is done: the operands are taken, and a result is
-- left where the action gives one. A value that is given is dropped (JLS 14.8).
abbrev pub meant_instead : Action → ℕ → Frame → Response → Meant
meant_instead action bound frame (Gave value outside) =
    Exits (Completes (push (left_result action) (under (length (operands_of action)) frame.stack)))
    bound frame.locals outside
meant_instead action bound frame (Threw reference outside) =
    Exits (Throws reference) bound frame.locals outside
meant_instead action bound frame (Waits outside) = Stays bound frame.locals outside

-- `{ }` does nothing (JLS 14.2)
abbrev pub empty_instead : Action → Classes → Meaning
empty_instead action classes bound frame outside =
    meant_instead action bound frame (Gave None outside)

-- `{ $proceed($$); }` does the action, on the operands that were taken
abbrev pub proceed_instead : Action → Classes → Meaning
proceed_instead action classes bound frame outside =
    meant_instead action bound frame
    (act classes action (popped (length (operands_of action)) frame.stack) outside)

-- the blocks that do so, where the action has no operands, or no result
abbrev pub emptied : Action → Fragment
emptied action = record { block = no_code; meaning = empty_instead action }

abbrev pub proceeded : Action → Fragment
proceeded action =
    record { block = one_instruction (Act action); meaning = proceed_instead action }
