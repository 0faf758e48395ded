use Rattle.std.proofs.Common.{◌+◌, drop, eq-eqb}
use Rattle.je_put.specs.Placing.{put_before}
use Rattle.je_put.proofs.ItemsLemmas.{drop_step}
use Rattle.je_put.proofs.CodeLemmas.{met_here, met_none}
use Rattle.je_put.proofs.handlers.entry_met.Goals as goal

pub returns-then-handler-entry : goal.returns-then-handler-entry
returns-then-handler-entry c =
    met_here (λ put. put.meets c.args.handler.now) (λ e. put_before e.now) c.args.entries.now (drop (c.loop-k.k + 1) c.args.entries.now) c.index-entries-k.result c.loop-k.k
    (drop_step c.args.entries.now c.loop-k.k c.index-entries-k.result c.loop-k-test.true c.index-entries-k.is) (eq-eqb _ _ c.if-handler-entry.true) c.loop-k.invariant

pub returns : goal.returns
returns c = met_none (λ put. put.meets c.args.handler.now) (λ e. put_before e.now) c.args.entries.now c.loop-k.k c.loop-k-test.false c.loop-k.invariant
