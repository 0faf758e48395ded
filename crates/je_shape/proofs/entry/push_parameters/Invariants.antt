use Rattle.std.proofs.Common.{◌≡◌, ◌++◌, map, take}
use Rattle.std.specs.List.{flat_map}
use Rattle.je_desc.specs.Types.{field_type_of}
use Rattle.je_shape.specs.Flow.{slot_of_type}
use Rattle.je_shape.specs.Entry.{places_of}
use Rattle.je_shape.specs.Views.{slot_seen}
use Rattle.je_shape.proofs.entry.push_parameters.Given as goal

abbrev pub invariant-loop-t : goal.invariant-loop-t
invariant-loop-t l =
    map slot_seen l.locals.items
    ≡ map slot_seen l.fn.locals.items ++ flat_map (λ t. places_of (slot_of_type (field_type_of t))) (take l.t-index l.params)
