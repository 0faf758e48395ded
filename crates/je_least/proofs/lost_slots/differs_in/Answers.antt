use Rattle.je_shape.specs.Views.{slot_seen}
use Rattle.je_least.proofs.LostLemmas.{differs_found, differs_past}
use Rattle.je_least.proofs.lost_slots.differs_in.Goals as goal

pub returns-in-Some : goal.returns-in-Some
returns-in-Some c =
    differs_found c.args.locals.now c.args.slot c.in-Some.local.now (slot_seen c.args.kind.now) c.is_alike.result
    c.in-Some.ensures.lookup.3.0 c.in-Some.ensures.lookup.1 c.is_alike.ensures

pub returns-in-None : goal.returns-in-None
returns-in-None c =
    differs_past c.args.locals.now c.args.slot (slot_seen c.args.kind.now) c.is_alike-in-None.result c.in-None.ensures.lookup.3 c.is_alike-in-None.ensures
