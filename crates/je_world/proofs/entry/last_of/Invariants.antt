use Rattle.std.proofs.Common.{◌≡◌, take, IfSome}
use Rattle.std.specs.Option.{option_map}
use Rattle.std.specs.FinMap.{empty, get}
use Rattle.je_world.specs.Entry.{name_of, kept, known_after, IsFitEntry}
use Rattle.je_world.proofs.entry.last_of.Given as goal

abbrev pub invariant-loop-entry : goal.invariant-loop-entry
invariant-loop-entry l =
    record {
      found : option_map (λ entry. kept entry.now) l.found ≡ get (known_after empty (take l.entry-index l.entries)) l.name;
      named : IfSome l.found (λ entry. name_of entry.now ≡ l.name);
      fit : IfSome l.found (λ entry. IsFitEntry entry.now);
    }
