use Rattle.std.proofs.Common.{◌≡◌, map, take}
use Rattle.je_probe.specs.Given.{object_given}
use Rattle.je_probe.proofs.heap.objects_given.Given as goal

abbrev pub invariant-loop-text : goal.invariant-loop-text
invariant-loop-text l = l.objects.items ≡ map object_given (take l.text-index l.texts)
