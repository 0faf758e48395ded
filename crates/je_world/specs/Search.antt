-- Searches along a walk, as questions: they end where they are decided.
use Rattle.std.specs.Prelude.{ℕ, zero, suc, cond, List, [], ◌∷◌, ◌++◌}
use Rattle.std.specs.Prelude.{Option, Some, None}
use Rattle.je_desc.specs.declared.summary.Summary.{Summary}
use Rattle.je_world.specs.declared.link.Link.{Link}
use Rattle.je_world.specs.declared.link.Link.TheVariants.{NotFound, Cycle}
use Rattle.je_world.specs.declared.link.Link.TheVariants as link
use Rattle.je_world.specs.Question.{Name, Known, Absent, Broken, IsClass, Map}
use Rattle.je_world.specs.Question.{Question, Answered, Look, answer_by, names_by, and_then}
use Rattle.je_world.specs.World.{is_listed}
use Rattle.je_world.specs.Walk.{Class, names_of, most}

-- what decides a search: a name that it meets, before it is looked at, or a class that it sees
pub record Search (A : Type 0) : Type 0 where
  pub meets : Name → Option A
  pub sees : Summary → Option A

-- a search that nothing decides
abbrev pub no_search : {A : Type 0} → Search A
no_search = record { meets = λ name. None; sees = λ class. None }

-- how a search ends: it went along all of the walk, or met what is bad, or was decided
pub data Ending (N A : Type 0) : Type 0 where
  Went : (gone : N) → Ending N A
  Bad : (bad : Link) → Ending N A
  Decided : (answer : A) → Ending N A

-- ---- what a search comes to over names in order

-- the names that are looked at, in order, and the end
abbrev pub Asked : Type 0 → Type 0 → Type 0
Asked N A = List Name × Ending N A

-- both, of a question over a map
abbrev pub asked_by : {N A : Type 0} → Map → Question (Ending N A) → Asked N A
asked_by map q = (names_by map q, answer_by map q)

-- a class that is looked at: the search is decided by it, or goes on to the rest
abbrev pub seeing : {N A : Type 0} → Name → Option A → Asked N A → Asked N A
seeing name (Some answer) rest = (name ∷ [], Decided answer)
seeing name None rest = (name ∷ rest.0, rest.1)

-- a name that is met: the search is decided by it, or looks at it
abbrev pub meeting :
    {N A : Type 0} → Name → Option A → (Summary → Option A) → Known → (Summary → Asked N A)
    → Asked N A
meeting name (Some answer) sees known rest = ([], Decided answer)
meeting name None sees Absent rest = (name ∷ [], Bad (NotFound name))
meeting name None sees Broken rest = (name ∷ [], Bad (link.Broken name))
meeting name None sees (IsClass class) rest = seeing name (sees class) (rest class)

-- a search over names in order, and then what is behind them
abbrev pub search_over :
    {N A : Type 0} → Search A → Map → List Name → Asked N A → Asked N A
search_over s map [] behind = behind
search_over s map (name ∷ names) behind =
    meeting name (s.meets name) s.sees (map name) (λ class. search_over s map names behind)

-- what is behind the names of a walk: it went along all, or meets what is bad
abbrev pub at_end : {N A : Type 0} → Search A → Option Link → N → Asked N A
at_end s None gone = ([], Went gone)
at_end s (Some (NotFound name)) gone =
    meeting name (s.meets name) s.sees Absent (λ class. ([], Went gone))
at_end s (Some (link.Broken name)) gone =
    meeting name (s.meets name) s.sees Broken (λ class. ([], Went gone))
at_end s (Some (Cycle name)) gone = ([], Bad (Cycle name))

-- ---- the questions

-- what comes behind a part of a walk, where the search went along it
abbrev pub going_on :
    {N M A : Type 0} → (N → Question (Ending M A)) → Ending N A → Question (Ending M A)
going_on next (Went gone) = next gone
going_on next (Bad bad) = Answered (Bad bad)
going_on next (Decided answer) = Answered (Decided answer)

unfoldable pub went_then :
    {N M A : Type 0} → Question (Ending N A) → (N → Question (Ending M A))
    → Question (Ending M A)
went_then q next = and_then q (going_on next)

-- a class that was looked at decides, or the search goes on
abbrev pub see_by : {N A : Type 0} → Option A → Question (Ending N A) → Question (Ending N A)
see_by (Some answer) rest = Answered (Decided answer)
see_by None rest = rest

-- what a look at a name comes to
abbrev pub seen_then :
    {N A : Type 0} → Name → (Summary → Option A) → (Summary → Question (Ending N A)) → Known
    → Question (Ending N A)
seen_then name sees next Absent = Answered (Bad (NotFound name))
seen_then name sees next Broken = Answered (Bad (link.Broken name))
seen_then name sees next (IsClass class) = see_by (sees class) (next class)

-- a name that is met decides, or is looked at
abbrev pub meet_by :
    {N A : Type 0} → Name → Option A → (Summary → Option A) → (Summary → Question (Ending N A))
    → Question (Ending N A)
meet_by name (Some answer) sees next = Answered (Decided answer)
meet_by name None sees next = Look name (seen_then name sees next)

unfoldable pub met_then :
    {N A : Type 0} → Search A → Name → (Summary → Question (Ending N A))
    → Question (Ending N A)
met_then s name next = meet_by name (s.meets name) s.sees next

-- on to the superclass, if there is one
abbrev pub on_to :
    {N A : Type 0} → N → Option Name → (N → Name → Question (Ending N A))
    → Question (Ending N A)
on_to gone None next = Answered (Went gone)
on_to gone (Some super) next = next gone super

-- the classes on the way up
unfoldable pub chain :
    {A : Type 0} → Search A → ℕ → List Class → Name → Question (Ending (List Class) A)
chain s zero so_far name = Answered (Bad (Cycle name))
chain s (suc left) so_far name =
    cond (is_listed name (names_of so_far)) (Answered (Bad (Cycle name)))
    (met_then s name (λ class.
    on_to (so_far ++ (name, class.interfaces) ∷ []) class.super_name (chain s left)))

-- names that wait, with what is above each by `up`
unfoldable pub waiting :
    {A : Type 0} → Search A → (List Name → List Name → List Name → Question (Ending (List Name) A))
    → List Name → List Name → List Name → Question (Ending (List Name) A)
waiting s up below so_far [] = Answered (Went so_far)
waiting s up below so_far (name ∷ rest) =
    cond (is_listed name below) (Answered (Bad (Cycle name)))
    (cond (is_listed name so_far) (waiting s up below so_far rest)
    (met_then s name (λ class.
    went_then (up (name ∷ below) (so_far ++ name ∷ []) class.interfaces)
    (λ names. waiting s up below names rest))))

-- names above which no further name may stand
abbrev pub too_high :
    {A : Type 0} → List Name → List Name → List Name → Question (Ending (List Name) A)
too_high below so_far [] = Answered (Went so_far)
too_high below so_far (name ∷ rest) = Answered (Bad (Cycle name))

-- interfaces with what is above them
unfoldable pub above :
    {A : Type 0} → Search A → ℕ → List Name → List Name → List Name
    → Question (Ending (List Name) A)
above s zero = too_high
above s (suc left) = waiting s (above s left)

-- the interfaces of classes
unfoldable pub sides :
    {A : Type 0} → Search A → List Name → List Name → List Class
    → Question (Ending (List Name) A)
sides s below so_far [] = Answered (Went so_far)
sides s below so_far (class ∷ rest) =
    went_then (above s most (class.0 ∷ below) so_far class.1)
    (λ names. sides s (class.0 ∷ below) names rest)

-- a search along the walk of a class
unfoldable pub walk : {A : Type 0} → Search A → Name → Question (Ending (List Name) A)
walk s name =
    went_then (chain s most [] name) (λ classes. sides s [] (names_of classes) classes)

-- a search along a field walk, of which there are names so far
unfoldable pub fields :
    {A : Type 0} → Search A → ℕ → List Name → List Name → Name
    → Question (Ending (List Name) A)
fields s zero below so_far name = Answered (Bad (Cycle name))
fields s (suc left) below so_far name =
    cond (is_listed name below) (Answered (Bad (Cycle name)))
    (met_then s name (λ class.
    went_then (above s most (name ∷ below) (so_far ++ name ∷ []) class.interfaces)
    (λ names. on_to names class.super_name (fields s left (name ∷ below)))))

-- a search along the field walk of a class
unfoldable pub field_walk : {A : Type 0} → Search A → Name → Question (Ending (List Name) A)
field_walk s name = fields s most [] [] name
