-- Serves private functions: the search for the least assignment, and what it keeps.
use Rattle.std.specs.Prelude.{◌≡◌, ℕ, ◌⊎◌, List, [], ◌∷◌, length, Some, get_or, slice_get}
use Rattle.je_machine.specs.Operation.{Operation}
use Rattle.je_shape.specs.Shape.{Known, Nothing, Has, KnownBelow}
use Rattle.je_shape.specs.Least.{Method, Assignment, Reaches, Passes, IsClosed}

-- what is known of each index by a list of it; behind its end nothing is
abbrev pub assigned : List Known → Assignment
assigned table at = get_or table at Nothing

abbrev pub IsAmong : List ℕ → ℕ → Type 0
IsAmong [] n = ⊥
IsAmong (first ∷ rest) n = (first ≡ n) ⊎ IsAmong rest n

-- what an assignment takes from an index of which so much is known
abbrev pub PassesAt : Method → Assignment → ℕ → Known → Type 0
PassesAt m x at known =
    (operation : Operation) → slice_get m.program.operations at ≡ Some operation
    → Passes m x at operation known

-- From one list of what is known, and of indexes to look at, to another by which an assignment is
-- as wanted: it is the least above the first, and indexes where it differs are to be looked at.
pub record Gains (Wanted : Assignment → Type 0) (old : List Known) (todo : List ℕ)
    (new : List Known) (more : List ℕ) : Type 0 where
  pub count : length new ≡ length old
  pub grown : (at : ℕ) → KnownBelow (assigned old at) (assigned new at)
  pub kept : (at : ℕ) → IsAmong todo at → IsAmong more at
  pub noted : (at : ℕ) → (assigned new at ≡ assigned old at) ⊎ IsAmong more at
  pub met : Wanted (assigned new)
  pub least :
      (y : Assignment) → ((at : ℕ) → KnownBelow (assigned old at) (y at)) → Wanted y
      → (at : ℕ) → KnownBelow (assigned new at) (y at)

-- Below each closed assignment; what does not pass yet is to be looked at.
pub record IsSolving (m : Method) (table : List Known) (todo : List ℕ) : Type 0 where
  pub count : length table ≡ length m.program.operations
  pub starts : Reaches m (assigned table) 0 (Has m.entry)
  pub below : (y : Assignment) → IsClosed m y → (at : ℕ) → KnownBelow (assigned table at) (y at)
  pub passes : (at : ℕ) → IsAmong todo at ⊎ PassesAt m (assigned table) at (assigned table at)
