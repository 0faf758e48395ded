-- Serves private functions: names in another order, or more than once, and slots of such names.
use Rattle.std.specs.Prelude.{ℕ, List, Option, Some, None}
use Rattle.je_shape.specs.Slot.{Slot, HasNames, IsItemBelow}

abbrev pub AreSameNames : List (List ℕ) → List (List ℕ) → Type 0
AreSameNames a b = HasNames a b × HasNames b a

abbrev pub AreSlotsAlike : Slot → Slot → Type 0
AreSlotsAlike s t = IsItemBelow s t × IsItemBelow t s

abbrev pub AreGivenAlike : Option Slot → Option Slot → Type 0
AreGivenAlike None None = Unit {0}
AreGivenAlike (Some s) (Some t) = AreSlotsAlike s t
AreGivenAlike _ _ = ⊥
