-- A program whose instructions stand at other places in another program.
use Rattle.std.specs.Prelude.{◌≡◌, ℕ, suc, List, map, filter, Option, IfSome, option_map, slice_get}
use Rattle.std.specs.Prelude.{Bool, true, false, IsTrue}
use Rattle.std.specs.List.{AllByRecursion}
use Rattle.je_machine.specs.Operation.{Throw, Operation, Do, Branch, Goto, Switch, Return, Handler}
use Rattle.je_machine.specs.Operation.{Program}
use Rattle.je_machine.specs.Machine.{State, state_at, covers}
use Rattle.je_machine.specs.Moved.{retargeted}

-- where an entry leads, and what it catches
abbrev pub Way : Type 0
Way = ℕ × Option (List ℕ)

-- those of the entries that cover a place, in order
abbrev pub ways_at : List Handler → ℕ → List Way
ways_at handlers place = map (λ h. (h.target, h.catch_class)) (filter (covers place) handlers)

abbrev pub moved_way : (ℕ → ℕ) → Way → Way
moved_way to way = (to way.0, way.1)

-- the instruction may go on to the next
abbrev pub may_fall : Operation → Bool
may_fall (Do Throw) = false
may_fall (Goto target) = false
may_fall (Switch cases fallback) = false
may_fall (Return kind) = false
may_fall _ = true

-- each target is in the set
abbrev pub TargetsIn : (ℕ → Bool) → Operation → Type 0
TargetsIn inside (Branch condition target) = IsTrue (inside target)
TargetsIn inside (Goto target) = IsTrue (inside target)
TargetsIn inside (Switch cases fallback) =
    AllByRecursion (λ c. IsTrue (inside c.1)) cases × IsTrue (inside fallback)
TargetsIn inside _ = Unit {0}

-- What stands at a place of the old program stands where the map sends the place, and all to which
-- it leads is in the set. The entries that cover the two places are the same, in order, moved.
pub record MovesPlace (to : ℕ → ℕ) (inside : ℕ → Bool) (old new : Program) (place : ℕ) : Type 0
  where
    pub operation : slice_get new.operations (to place)
        ≡ option_map (retargeted to) (slice_get old.operations place)
    pub targets : IfSome (slice_get old.operations place) (TargetsIn inside)
    pub next : IfSome (slice_get old.operations place)
        (λ o. IsTrue (may_fall o) → IsTrue (inside (suc place)) × (to (suc place) ≡ suc (to place)))
    pub ways : ways_at new.handlers (to place) ≡ map (moved_way to) (ways_at old.handlers place)
    pub caught : AllByRecursion (λ (w : Way). IsTrue (inside w.0)) (ways_at old.handlers place)

-- this holds of each place of the set
abbrev pub MovesProgram : (ℕ → ℕ) → (ℕ → Bool) → Program → Program → Type 0
MovesProgram to inside old new = (place : ℕ) → IsTrue (inside place) →
    MovesPlace to inside old new place

abbrev pub moved_state : (ℕ → ℕ) → State → State
moved_state to s = state_at (to s.place) s.frame s.outside
