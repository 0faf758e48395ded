use Rattle.std.proofs.Common.{drop, ◌≡◌, map}
use Rattle.std.specs.List.{position_from}
use Rattle.je_put.specs.Placing.{put_before}
use Rattle.je_put.proofs.handlers.entry_met.Given as goal

abbrev pub invariant-loop-k : goal.invariant-loop-k
invariant-loop-k l = position_from (λ put. put.meets l.handler) l.k (map (λ e. put_before e.now) (drop l.k l.entries))
    ≡ position_from (λ put. put.meets l.handler) 0 (map (λ e. put_before e.now) l.entries)
