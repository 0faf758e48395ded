-- Searches for names along walks, and what is read off a class.
use Rattle.std.specs.Prelude.{cond, List, Some, None, Result, Ok, Err}
use Rattle.je_desc.specs.declared.summary.Summary.{Summary}
use Rattle.je_world.specs.declared.link.Link.{Link}
use Rattle.je_world.specs.declared.link.Link.TheVariants as link
use Rattle.je_world.specs.Question.{Name, Known, Absent, Broken, IsClass}
use Rattle.je_world.specs.Question.{Question, Answered, and_then}
use Rattle.je_world.specs.World.{is_listed}
use Rattle.je_world.specs.Search.{Search}

-- a search that is decided by the first of these names that it meets, before it looks at it
abbrev pub among : List Name → Search Name
among sought = record {
  meets = λ name. cond (is_listed name sought) (Some name) None;
  sees = λ class. None;
}

-- what is read off a class, or why there is none
abbrev pub found : {A : Type 0} → Name → (Summary → A) → Known → Result A Link
found name read Absent = Err (link.NotFound name)
found name read Broken = Err (link.Broken name)
found name read (IsClass class) = Ok (read class)

-- what is asked on from an answer; what is bad ends the question
abbrev pub on_ok :
    {A B : Type 0} → (A → Question (Result B Link)) → Result A Link → Question (Result B Link)
on_ok next (Ok answer) = next answer
on_ok next (Err bad) = Answered (Err bad)

unfoldable pub try_then :
    {A B : Type 0} → Question (Result A Link) → (A → Question (Result B Link))
    → Question (Result B Link)
try_then q next = and_then q (on_ok next)
