-- Serves private functions: how searches for names end.
use Rattle.std.specs.Prelude.{Result, Ok, Err}
use Rattle.je_world.specs.declared.stop.Stop.{Stop}
use Rattle.je_world.specs.Question.{Name}
use Rattle.je_world.specs.Search as search
use Rattle.je_members.specs.declared.ending.Ending.{Ending}
use Rattle.je_members.specs.declared.ending.Ending.TheVariants.{Went, Bad, Met}

-- how a search ended, as the searches of a world have it
abbrev pub ending_of : {N : Type 0} → Ending N → search.Ending N Name
ending_of (Went gone) = search.Went gone
ending_of (Bad bad) = search.Bad bad
ending_of (Met name) = search.Decided name

abbrev pub ended : {N : Type 0} → Result (Ending N) Stop → Result (search.Ending N Name) Stop
ended (Ok end) = Ok (ending_of end)
ended (Err why) = Err why
