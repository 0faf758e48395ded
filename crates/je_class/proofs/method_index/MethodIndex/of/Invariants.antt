use Rattle.std.proofs.Common.{take}
use Rattle.je_class.specs.Indexed.{IsIndexOf}
use Rattle.je_class.proofs.method_index.MethodIndex.of.Given as goal

abbrev pub invariant-loop-at : goal.invariant-loop-at
invariant-loop-at l = IsIndexOf (record l.class { methods = take l.at l.methods }) l.index
