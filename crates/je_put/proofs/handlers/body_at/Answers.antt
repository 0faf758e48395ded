use Rattle.je_put.proofs.CodeLemmas.{body_there, body_past}
use Rattle.je_put.proofs.handlers.body_at.Goals as goal

pub returns-then-place-items : goal.returns-then-place-items
returns-then-place-items c m = body_there m c.args.items.now c.args.place c.body_of.result c.index-items-place.result c.if-place-items.true c.index-items-place.is (c.body_of.ensures m)

pub returns-else-place-items : goal.returns-else-place-items
returns-else-place-items c m = body_past m c.args.items.now c.args.place c.if-place-items.false
