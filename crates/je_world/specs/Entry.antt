-- Serves private functions: what a world in memory was told, entry by entry.
use Rattle.std.specs.Prelude.{List, [], ◌∷◌, Option, Some, None}
use Rattle.std.specs.FinMap.{insert}
use Rattle.je_desc.specs.declared.summary.Summary.{Summary}
use Rattle.je_desc.specs.Fit.{IsFit}
use Rattle.je_world.specs.declared.entry.Entry.{Entry}
use Rattle.je_world.specs.declared.entry.Entry.TheVariants as entry
use Rattle.je_world.specs.Question.{Name}
use Rattle.je_world.specs.MapWorld.{Contents}

-- the name of which an entry speaks
abbrev pub name_of : Entry → Name
name_of (entry.Class summary) = summary.name
name_of (entry.Broken name) = name

-- the class that it puts there, if what it puts is not broken
abbrev pub kept : Entry → Option Summary
kept (entry.Class summary) = Some summary
kept (entry.Broken name) = None

-- its class is fit
abbrev pub IsFitEntry : Entry → Type 0
IsFitEntry (entry.Class summary) = IsFit summary
IsFitEntry (entry.Broken name) = Unit {0}

-- the contents after further entries, in their order
abbrev pub known_after : Contents → List Entry → Contents
known_after contents [] = contents
known_after contents (e ∷ entries) = known_after (insert contents (name_of e) (kept e)) entries
