use Rattle.std.proofs.Common.{◌≡◌, ◌++◌, length}
use Rattle.je_base.specs.Parts.{each, table_parts}
use Rattle.je_code.specs.Code.{spelled, handler_parts, IsSound}
use Rattle.je_code.proofs.writing.put_handlers.Given as goal

abbrev pub invariant-loop-handler : goal.invariant-loop-handler
invariant-loop-handler l = record {
  bytes : l.out.items ++ spelled (each handler_parts l.rest) ≡ l.fn.out.items ++ spelled (table_parts handler_parts l.table);
  sound : IsSound (each handler_parts l.rest) → IsSound (table_parts handler_parts l.table);
}

abbrev pub decreases-loop-handler : goal.decreases-loop-handler
decreases-loop-handler l = length l.rest
