use Rattle.std.proofs.Common.{◌≡◌, ◌≤◌, ◌+◌, ◌++◌, length}
use Rattle.std.specs.Iterator.Adapters.{zip_first, zip_second}
use Rattle.std.specs.Slice.Iter.{iter_rest}
use Rattle.je_session.specs.Splice.{new_instrs, new_places}
use Rattle.je_session.proofs.edit.splice.splice.Given as goal

-- what is out, and what the rest becomes, are what the whole becomes
abbrev pub invariant-loop-instr : goal.invariant-loop-instr
invariant-loop-instr l = record {
  same_length : length (iter_rest (zip_second l.instr-iterator)) ≡ length (iter_rest (zip_first l.instr-iterator));
  few : length l.out.items + length (iter_rest (zip_first l.instr-iterator)) ≤ 65535;
  whole : l.out.items ++ new_instrs (iter_rest (zip_second l.instr-iterator)) (iter_rest (zip_first l.instr-iterator)) ≡ new_instrs l.fn.chosen l.fn.instrs;
  places : l.new_of.items ++ new_places (length l.out.items) (iter_rest (zip_second l.instr-iterator)) (iter_rest (zip_first l.instr-iterator)) ≡ new_places 0 l.fn.chosen l.fn.instrs;
}
