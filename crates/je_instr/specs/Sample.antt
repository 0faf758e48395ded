-- Methods of a few instructions, by which laws show what programs and runs are.
use Rattle.std.specs.Prelude.{◌≡◌, ℕ, pos, List, [], ◌∷◌, Option, Some, None}
use Rattle.std.specs.List.{AllZip}
use Rattle.je_consts.specs.declared.place.Place.{Place}
use Rattle.je_consts.specs.declared.constant.MemberTag.TheVariants.{Method}
use Rattle.je_machine.specs.Content.{Content, Member}
use Rattle.je_machine.specs.Heap.{Heap}
use Rattle.je_machine.specs.Classes.{Classes}
use Rattle.je_machine.specs.Action.{Action, Static, Invoke}
use Rattle.je_machine.specs.Operation.{Push, Do, Return, Program}
use Rattle.je_machine.specs.Outside.{Answer, Event}
use Rattle.je_machine.specs.Step.{Ending}
use Rattle.je_machine.specs.Machine.{run_of}
use Rattle.je_machine.specs.Value.{Int}
use Rattle.je_machine.specs.View.{view_of}
use Rattle.je_instr.specs.declared.instr.Instr.{Instr}
use Rattle.je_instr.specs.declared.instr.Instr.TheVariants as instr
use Rattle.je_instr.specs.declared.opcodes.TheConstants as op
use Rattle.je_instr.specs.declared.program.Decoded.{Decoded}
use Rattle.je_instr.specs.declared.program.Handler.{Handler}
use Rattle.je_instr.specs.Callee.{IsCallable}
use Rattle.je_instr.specs.Content.{content_at}
use Rattle.je_instr.specs.Resolves.{Resolves}

-- ---- two instructions

-- sipush of 256, which has three bytes, and return
abbrev pub push_and_return : List ℕ
push_and_return = op.SIPUSH ∷ 1 ∷ 0 ∷ op.RETURN ∷ []

-- what they are decoded to, with this handler
abbrev pub pushed_with : Handler → Decoded
pushed_with handler = record {
  program = record {
    instrs = instr.IntPush (pos 256) ∷ instr.Simple op.RETURN ∷ [];
    handlers = handler ∷ [];
  };
  offsets = 0 ∷ 3 ∷ 4 ∷ [];
}

-- their program in a static method without parameters
abbrev pub push_program : Program
push_program = record {
  parameters = [];
  operations = Do (Push (Int (pos 256))) ∷ Return None ∷ [];
  handlers = [];
}

-- ---- four instructions

-- calls a method, does nothing, calls another and returns
abbrev pub two_calls : ℕ → ℕ → List Instr
two_calls first second =
    instr.Invoke op.INVOKESTATIC first ∷ instr.Simple op.NOP
    ∷ instr.Invoke op.INVOKESTATIC second ∷ instr.Simple op.RETURN ∷ []

-- the call of a method without parameters and result
abbrev pub plain_call : Content → Action
plain_call method = Invoke Static method (record { params = []; result = None })

-- what the outside sees of it
abbrev pub call_event : Content → Heap → Event
call_event method heap = record { action = plain_call method; operands = []; heap = heap }

-- the constant is this method, which may be called so far
pub record CallsPlain (consts : List Place) (index : ℕ) (class name text : List ℕ) : Type 0 where
  pub here : content_at consts index ≡ Some (Member Method class name text)
  pub callable : IsCallable class name text

-- the program of these instructions, in a method without parameters and handlers
pub record IsTwoCalls (consts : List Place) (first second : ℕ) (p : Program) : Type 0 where
  pub parameters : p.parameters ≡ []
  pub operations : AllZip (Resolves consts) (two_calls first second) p.operations
  pub handlers : p.handlers ≡ []

-- what four steps of the program show
abbrev pub Shows : Program → Heap → List Answer → List Event → Option (Ending × Heap) → Type 0
Shows p heap answers events end =
    (classes : Classes) → view_of (run_of p classes [] heap answers 4)
    ≡ record { events = events; end = end }
