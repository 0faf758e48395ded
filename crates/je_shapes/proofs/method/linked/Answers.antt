use Rattle.je_shapes.proofs.CatchLemmas.{handlers_there}
use Rattle.je_shapes.proofs.method.linked.Goals as goal

pub unreachable-requires-in_default-2 : goal.unreachable-requires-in_default-2
unreachable-requires-in_default-2 c =
    let none = rw (c.in_default-2.is, c.as_slice-2.ensures) at c.in_ok-handlers.ensures.only in
    let there = handlers_there c.args.consts.now c.args.p.now.handlers c.requires.caught in
    none there.0 there.1
