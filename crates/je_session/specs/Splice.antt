-- Serves private functions: a method's instructions, of which some give way to blocks.
use Rattle.std.specs.Prelude.{◌≡◌, ℕ, ◌+◌, ◌<◌, List, [], ◌∷◌, ◌++◌, length, Option, Some, None}
use Rattle.std.specs.Prelude.{codes, map, slice_index}
use Rattle.std.specs.List.{AllByRecursion, AllZip}
use Rattle.std.specs.Option.{option_map}
use Rattle.je_consts.specs.declared.place.Place.{Place}
use Rattle.je_machine.specs.Action.{Static, Invoke}
use Rattle.je_consts.specs.declared.constant.MemberTag.TheVariants.{Method}
use Rattle.je_machine.specs.Content.{Member}
use Rattle.je_machine.specs.Operation.{Act, Operation, Do}
use Rattle.je_instr.specs.declared.assembled.Assembled.{Assembled}
use Rattle.je_instr.specs.declared.instr.Instr.{Instr}
use Rattle.je_instr.specs.declared.program.Program.{Program}
use Rattle.je_instr.specs.Allowed.{IsAllowed}
use Rattle.je_instr.specs.Assembling.{placed}
use Rattle.je_instr.specs.Decoding.{Decodes}
use Rattle.je_instr.specs.Resolves.{Resolves}
use Rattle.je_code.specs.declared.attr.CodeAttr.{CodeAttr}
use Rattle.je_code.specs.CodeAttr.{IsCodeAttr, HasRowsWithin}
use Rattle.je_code.specs.Moved.{moved}
use Rattle.je_code.specs.Written.{IsWritten}
use Rattle.je_session.specs.declared.plan.Fragment.{Fragment}
use Rattle.je_session.specs.declared.plan.Fragment.TheVariants.{Empty, Proceed}
use Rattle.je_session.specs.declared.plan.Rule.{Rule}
use Rattle.je_session.specs.Chosen.{chosen_rule}
use Rattle.je_session.specs.Kept.{IsSoFar}

-- An instruction with a block gives way to it. One without a block stays.
abbrev pub spliced : {A : Type 0} → List (Option (List A)) → List A → List A
spliced [] xs = xs
spliced (place ∷ places) [] = []
spliced (None ∷ places) (x ∷ xs) = x ∷ spliced places xs
spliced (Some block ∷ places) (x ∷ xs) = block ++ spliced places xs

-- the instructions that do what a fragment says in the place of one
abbrev pub block_of : {A : Type 0} → A → Fragment → List A
block_of x Empty = []
block_of x Proceed = x ∷ []

-- the blocks of the instructions for which a fragment is chosen
abbrev pub blocks_of : {A : Type 0} → List (Option Fragment) → List A → List (Option (List A))
blocks_of [] xs = []
blocks_of (chosen ∷ rest) [] = []
blocks_of (chosen ∷ rest) (x ∷ xs) = option_map (block_of x) chosen ∷ blocks_of rest xs

-- the instructions, with what does its fragment in the place of each one that has one
abbrev pub new_instrs : {A : Type 0} → List (Option Fragment) → List A → List A
new_instrs chosen xs = spliced (blocks_of chosen xs) xs

-- invokestatic of a method without parameters and result
abbrev pub static_call : List ℕ → List ℕ → Operation
static_call class name =
    Do (Act (Invoke Static (Member Method class name (codes "()V"))
    (record { params = []; result = None })))

-- the fragment that the first rule that fits an instruction has
abbrev pub chosen_fragment : List Rule → Operation → Option Fragment
chosen_fragment rules operation = option_map (λ rule. rule.fragment) (chosen_rule rules operation)

-- These are the fragments that the rules choose for what the instructions do. Each instruction is
-- one that is edited so far.
pub record AreChosen (consts : List Place) (rules : List Rule) (instrs : List Instr)
    (chosen : List (Option Fragment)) : Type 0 where
  pub operations : List Operation
  pub resolved : AllZip (Resolves consts) instrs operations
  pub so_far : AllByRecursion (IsSoFar consts) instrs
  pub chosen_is : chosen ≡ map (chosen_fragment rules) operations

-- ---- the code of a method

-- the indexes that instructions have once they are spliced, from an index on, and that of the end
abbrev pub new_places : {A : Type 0} → ℕ → List (Option Fragment) → List A → List ℕ
new_places at chosen [] = at ∷ []
new_places at [] (x ∷ xs) = at ∷ new_places (at + 1) [] xs
new_places at (choice ∷ chosen) (x ∷ xs) =
    at ∷ new_places (at + length (new_instrs (choice ∷ []) (x ∷ []))) chosen xs

-- The code is that of some bytes, without handlers; its instructions are some that are edited so
-- far. There is a choice for each, and some instruction is left.
pub record CanBeSpliced (consts : List Place) (old : CodeAttr) (chosen : List (Option Fragment))
    : Type 0 where
  pub info : List ℕ
  pub is_code : IsCodeAttr consts info old
  pub rows : HasRowsWithin old
  pub no_handlers : old.decoded.program.handlers ≡ []
  pub so_far : AllByRecursion (IsSoFar consts) old.decoded.program.instrs
  pub allowed : AllByRecursion (IsAllowed consts) old.decoded.program.instrs
  pub each : length chosen ≡ length old.decoded.program.instrs
  pub some : 0 < length (new_instrs chosen old.decoded.program.instrs)

-- The bytes are a Code of the old sizes, whose instructions are the spliced ones, with the rows of
-- the old tables where their instructions went, and without a StackMapTable.
pub record IsNewCode (consts : List Place) (old : CodeAttr) (chosen : List (Option Fragment))
    (bytes : List ℕ) : Type 0 where
  pub program : Program
  pub instrs : program.instrs ≡ new_instrs chosen old.decoded.program.instrs
  pub no_handlers : program.handlers ≡ []
  pub assembled : Assembled
  pub decodes : Decodes consts assembled.code assembled.table (placed program assembled)
  pub written : IsWritten consts assembled old.max_stack old.max_locals
      (moved (slice_index (new_places 0 chosen old.decoded.program.instrs))
      (length program.instrs) old) None bytes
