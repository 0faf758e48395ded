-- Small blocks and what is meant by them.
use Rattle.std.specs.Prelude.{ℕ, List, [], ◌∷◌}
use Rattle.je_machine.specs.Value.{Value}
use Rattle.je_machine.specs.Classes.{Classes}
use Rattle.je_machine.specs.Operation.{Basic, Do}
use Rattle.je_machine.specs.Frame.{Stacked, Stands, Breaks, Stalls, perform_basic}
use Rattle.je_splice.specs.Block.{Block, Completes, Throws, Meant, Exits, Stays, Meaning}
use Rattle.je_splice.specs.Laid.{Fragment}

-- `{ }`
abbrev pub no_code : Block
no_code = record { code = []; handlers = [] }

abbrev pub nothing : Classes → Meaning
nothing classes bound frame outside =
    Exits (Completes frame.stack) bound frame.locals outside

-- `$proceed($$)`: the instruction itself, on the operands that are there
abbrev pub one_instruction : Basic → Block
one_instruction basic = record { code = Do basic ∷ []; handlers = [] }

abbrev pub meant_by : ℕ → List Value → Stacked → Meant
meant_by bound locals (Stands stack outside) = Exits (Completes stack) bound locals outside
meant_by bound locals (Breaks reference outside) = Exits (Throws reference) bound locals outside
meant_by bound locals (Stalls outside) = Stays bound locals outside

abbrev pub proceeding : Basic → Classes → Meaning
proceeding basic classes bound frame outside =
    meant_by bound frame.locals (perform_basic classes basic frame.stack outside)

abbrev pub empty_fragment : Fragment
empty_fragment = record { block = no_code; meaning = nothing }

abbrev pub proceed_fragment : Basic → Fragment
proceed_fragment basic = record { block = one_instruction basic; meaning = proceeding basic }
