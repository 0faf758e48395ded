use Rattle.std.proofs.Common.{◌≡◌, ◌≤◌, drop}
use Rattle.std.specs.Prelude.{slice_range}
use Rattle.std.specs.List.{list_all}
use Rattle.je_pool.specs.Path.{is_part, has_parts, parts_from}
use Rattle.je_pool.proofs.path.has_parts.Given as goal

-- the parts of which all are still to be tested decide the test
abbrev pub invariant-loop-i : goal.invariant-loop-i
invariant-loop-i l =
    record {
      start : l.start ≤ l.i;
      rest : list_all is_part (parts_from (slice_range l.name l.start l.i) (drop l.i l.name)) ≡ has_parts l.name;
    }
