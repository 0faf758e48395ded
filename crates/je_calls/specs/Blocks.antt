-- The blocks in the place of a method's instructions.
use Rattle.std.specs.Prelude.{List, [], ◌∷◌, Option, Some, None, option_map}
use Rattle.je_instr.specs.declared.instr.Instr.{Instr}
use Rattle.je_put.specs.declared.block.Block.{Block}
use Rattle.je_calls.specs.declared.rule.Choice.{Choice}
use Rattle.je_calls.specs.declared.rule.Choice.TheVariants.{Stays, Drops, Gives}
use Rattle.je_calls.specs.declared.rule.Fragment.{Fragment}
use Rattle.je_calls.specs.declared.rule.Fragment.TheVariants.{Empty, Proceed}

-- the instructions that do what a fragment says in the place of one
abbrev pub code_of : Instr → Fragment → List Instr
code_of i Empty = []
code_of i Proceed = i ∷ []

-- the instructions in the place of one, or none where it stays
abbrev pub code_by : Instr → Choice → Option (List Instr)
code_by i Stays = None
code_by i Drops = Some []
code_by i (Gives fragment) = Some (code_of i fragment)

-- they have no exception table, and what is known at them is not said
abbrev pub block_of : List Instr → Block
block_of instrs =
    record { instrs = instrs; handlers = []; shapes = []; depth = 0; locals = 0 }

abbrev pub blocks_of : List Instr → List Choice → List (Option Block)
blocks_of [] choices = []
blocks_of (i ∷ instrs) [] = []
blocks_of (i ∷ instrs) (choice ∷ choices) =
    option_map block_of (code_by i choice) ∷ blocks_of instrs choices
