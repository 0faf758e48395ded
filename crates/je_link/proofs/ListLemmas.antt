-- Lists of instructions and what they are.
use Rattle.std.proofs.Common.{List, [], ◌∷◌}
use Rattle.std.specs.List.{AllByRecursion, AllZip}
use Rattle.je_consts.specs.declared.place.Place.{Place}
use Rattle.je_machine.specs.Operation.{Operation}
use Rattle.je_instr.specs.declared.instr.Instr.{Instr}
use Rattle.je_instr.specs.Allowed.{IsAllowed}
use Rattle.je_instr.specs.Resolves.{Resolves}

-- instructions that are operations have operands that are allowed
pub all_allowed : (consts : List Place) (is : List Instr) (os : List Operation) → AllZip (Resolves consts) is os → AllByRecursion (IsAllowed consts) is
all_allowed consts [] [] h = tt
all_allowed consts (i ∷ is) (o ∷ os) h = (h.0.allowed, all_allowed consts is os h.1)
all_allowed consts [] (o ∷ os) h = absurd h
all_allowed consts (i ∷ is) [] h = absurd h
