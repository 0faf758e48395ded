use Rattle.std.proofs.Common.{◌≡◌, ◌++◌, map, take, drop}
use Rattle.std.specs.List.{flat_map, AllByRecursion}
use Rattle.je_desc.specs.FieldType.{descriptor}
use Rattle.je_desc.specs.Types.{field_type_of}
use Rattle.je_type.specs.Texts.{HasText}
use Rattle.je_type.proofs.written.push_params.Given as goal

abbrev pub invariant-loop-t : goal.invariant-loop-t
invariant-loop-t l = record {
  text : l.out.items ≡ l.fn.out.items ++ flat_map descriptor (map field_type_of (take l.t-index l.params));
  named : AllByRecursion HasText (map field_type_of (drop l.t-index l.params)) → AllByRecursion HasText (map field_type_of l.params);
}
