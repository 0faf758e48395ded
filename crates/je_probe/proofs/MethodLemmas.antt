-- Instructions that are operations.
use Rattle.std.proofs.Common.{List, [], ◌∷◌}
use Rattle.std.specs.List.{AllByRecursion, AllZip}
use Rattle.je_consts.specs.declared.place.Place.{Place}
use Rattle.je_instr.specs.declared.instr.Instr.{Instr}
use Rattle.je_instr.specs.Allowed.{IsAllowed}
use Rattle.je_instr.specs.Resolves.{Resolves}
use Rattle.je_machine.specs.Operation.{Operation}

-- their operands are allowed
pub all_allowed : (consts : List Place) (xs : List Instr) (ys : List Operation)
    → AllZip (Resolves consts) xs ys → AllByRecursion (IsAllowed consts) xs
all_allowed consts [] [] h = tt
all_allowed consts (x ∷ xs) (y ∷ ys) h = (h.0.allowed, all_allowed consts xs ys h.1)
all_allowed consts [] (y ∷ ys) h = absurd h
all_allowed consts (x ∷ xs) [] h = absurd h
