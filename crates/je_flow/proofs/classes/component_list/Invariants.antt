use Rattle.std.proofs.Common.{◌≡◌, map, take}
use Rattle.je_shape.specs.Flow.{component_name}
use Rattle.je_flow.proofs.classes.component_list.Given as goal

abbrev pub invariant-loop-name : goal.invariant-loop-name
invariant-loop-name l = l.list.items ≡ map component_name (take l.name-index l.names)
