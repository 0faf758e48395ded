-- What a world has shown, and what a call that is lent a world leaves of it.
use Rattle.std.specs.Prelude.{◌≡◌, ℕ, ◌≤◌, List, [], ◌++◌, Contains, ◌⊎◌}
use Rattle.std.specs.Prelude.{Option, Some, None, Result, Ok, Err, IfSome}
use Rattle.std.specs.Option.{option_map}
use Rattle.je_base.specs.Count.{HasFault}
use Rattle.je_world.specs.declared.stop.Stop.{Stop}
use Rattle.je_world.specs.declared.stop.Stop.TheVariants.{Failed, Memory}
use Rattle.je_world.specs.Question.{Name, Map, Question, Answered, answer_by, names_by}

-- what a world has shown
pub record Seen : Type 0 where
  -- what lies under each name, where it is told
  pub told : Option Map
  -- the names that were asked, each once, in the order of their first asking, where they are told
  pub asked : Option (List Name)
  -- the first answer of a look that was a failure or want of memory
  pub stop : Option Stop
  -- how many faults there were
  pub faults : ℕ

-- names were put behind those that were told, if any
abbrev pub GoesOn : Option (List Name) → Option (List Name) → Type 0
GoesOn old new = (more : List Name) × (new ≡ option_map (λ names. names ++ more) old)

-- what every call leaves, whatever it answers: map, names so far, first stop, and faults
pub record Left (old new : Seen) : Type 0 where
  pub told : new.told ≡ old.told
  pub asked : GoesOn old.asked new.asked
  pub stop : IfSome old.stop (λ first. new.stop ≡ Some first)
  pub faults : old.faults ≤ new.faults

-- The names that were asked, and those that are still to be asked, were so before: of the first two
-- lists those still to be asked before and after, of the others those that were asked.
abbrev pub NamesKept : List Name → List Name → Option (List Name) → Option (List Name) → Type 0
NamesKept will rest (Some old) (Some new) =
    (x : Name) → Contains new x ⊎ Contains rest x → Contains old x ⊎ Contains will x
NamesKept will rest (Some old) None = ⊥
NamesKept will rest None new = Unit {0}

-- From a world with a question to the world after it with what is left to ask. A look counts as
-- answered by the map, where that is told, and no name is asked that the question does not ask.
pub record Leads {A : Type 0} (old : Seen) (q : Question A) (new : Seen) (rest : Question A)
    : Type 0 where
  pub left : Left old new
  pub stop : old.stop ≡ None → new.stop ≡ None
  pub answer : (map : Map) → old.told ≡ Some map → answer_by map q ≡ answer_by map rest
  pub names : (map : Map) → old.told ≡ Some map
      → NamesKept (names_by map q) (names_by map rest) old.asked new.asked

-- A failure has a fault on record, and is the stop where none was before. Want of memory is free.
abbrev pub CauseOf : Stop → Seen → Seen → Type 0
CauseOf Failed old new =
    HasFault old.faults new.faults × (old.stop ≡ None → new.stop ≡ Some Failed)
CauseOf Memory old new = Unit {0}

-- a question that was given up
pub record Breaks {A : Type 0} (old : Seen) (q : Question A) (new : Seen) (why : Stop)
    : Type 0 where
  pub left : Left old new
  pub cause : CauseOf why old new
  pub names : (map : Map) → old.told ≡ Some map
      → NamesKept (names_by map q) [] old.asked new.asked

-- A call that asks this question answers it, or gives it up.
abbrev pub Gives : {A : Type 0} → Seen → Question A → Seen → Result A Stop → Type 0
Gives old q new (Ok answer) = Leads old q new (Answered answer)
Gives old q new (Err why) = Breaks old q new why
