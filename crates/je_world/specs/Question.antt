-- Questions that are put to a world: what is asked, in which order, and what comes of the answers.
use Rattle.std.specs.Prelude.{ℕ, List, [], ◌∷◌}
use Rattle.je_desc.specs.declared.summary.Summary.{Summary}

-- a name of a class in internal form (JVMS 4.2.1), as its bytes
abbrev pub Name : Type 0
Name = List ℕ

-- what lies under a name: nothing, what is not the class of that name, or a class
pub data Known : Type 0 where
  Absent : Known
  Broken : Known
  IsClass : (summary : Summary) → Known

-- what lies under each name
abbrev pub Map : Type 0
Map = Name → Known

-- an answer, or a look at a name and what to ask then
pub data Question (A : Type 0) : Type 0 where
  Answered : (answer : A) → Question A
  Look : (name : Name) (go : Known → Question A) → Question A

-- what a question comes to over a map
abbrev pub answer_by : {A : Type 0} → Map → Question A → A
answer_by map (Answered answer) = answer
answer_by map (Look name go) = answer_by map (go (map name))

-- the names that are looked at on the way, in order
abbrev pub names_by : {A : Type 0} → Map → Question A → List Name
names_by map (Answered answer) = []
names_by map (Look name go) = name ∷ names_by map (go (map name))

-- a question, and then another one by its answer
unfoldable pub and_then : {A B : Type 0} → Question A → (A → Question B) → Question B
and_then (Answered answer) next = next answer
and_then (Look name go) next = Look name (λ known. and_then (go known) next)
