-- Subtypes, and which values a type takes, as questions (JLS SE 8, 4.10.2, 4.10.3 and 5.2).
use Rattle.std.specs.Prelude.{Bool, true, false, nat_eq, List, [], ◌∷◌, Result, Ok, Err, codes}
use Rattle.je_desc.specs.FieldType.{FieldType, Base, Object, Array, letter}
use Rattle.je_world.specs.declared.link.Link.{Link}
use Rattle.je_world.specs.Question.{Name, Question, Answered, and_then}
use Rattle.je_world.specs.World.{is_listed}
use Rattle.je_world.specs.Search.{Ending, Went, Bad, Decided, walk}
use Rattle.je_members.specs.Among.{among}

-- whether a search met what it sought
abbrev pub was_met : {N : Type 0} → Ending N Name → Result Bool Link
was_met (Went gone) = Ok false
was_met (Bad bad) = Err bad
was_met (Decided name) = Ok true

-- whether a class or interface is on the walk of another; equal names are decided without a look
unfoldable pub subtype : Name → Name → Question (Result Bool Link)
subtype sub sup =
    and_then (walk (among (sup ∷ [])) sub) (λ end. Answered (was_met end))

-- what each array is (JLS 4.10.3)
abbrev pub above_arrays : List Name
above_arrays =
    codes "java/lang/Object" ∷ codes "java/lang/Cloneable" ∷ codes "java/io/Serializable" ∷ []

-- Whether a variable of the second type takes each value of the first: equal types, classes by
-- their walks, arrays by what each array is, and arrays of references by their components.
abbrev pub assignable : FieldType → FieldType → Question (Result Bool Link)
assignable (Base from) (Base to) = Answered (Ok (nat_eq (letter from) (letter to)))
assignable (Object from) (Object to) = subtype from to
assignable (Array from) (Object to) = Answered (Ok (is_listed to above_arrays))
assignable (Array from) (Array to) = assignable from to
assignable from to = Answered (Ok false)
