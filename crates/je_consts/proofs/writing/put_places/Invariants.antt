use Rattle.std.proofs.Common.{◌≡◌, ◌++◌, take}
use Rattle.je_consts.specs.Layout.{entries_layout}
use Rattle.je_consts.proofs.writing.put_places.Given as goal

abbrev pub invariant-loop-place : goal.invariant-loop-place
invariant-loop-place l = l.out.items ≡ l.initial.out.items ++ entries_layout (take l.place-index l.places)
