use Rattle.std.proofs.Common.{◌≡◌, ◌++◌, ◌+◌, length, map, filter}
use Rattle.je_splice.specs.InstrCodes.{moved_entry_of, covers_some}
use Rattle.je_put.proofs.handlers.push_own.Given as goal

abbrev pub invariant-loop-handler : goal.invariant-loop-handler
invariant-loop-handler l = l.out.items ++ filter covers_some (map (moved_entry_of (λ start. l.at + start) (λ end. l.at + end) (λ target. l.at + target)) l.rest)
    ≡ l.fn.out.items ++ filter covers_some (map (moved_entry_of (λ start. l.at + start) (λ end. l.at + end) (λ target. l.at + target)) l.handlers)

abbrev pub decreases-loop-handler : goal.decreases-loop-handler
decreases-loop-handler l = length l.rest
