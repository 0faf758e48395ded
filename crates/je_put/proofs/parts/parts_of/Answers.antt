use Rattle.je_put.proofs.PartsLemmas.{parts_joined}
use Rattle.je_put.proofs.parts.parts_of.Goals as goal

pub returns : goal.returns
returns c =
    parts_joined c.args.places.now c.args.entries.now _ _ _ _ c.in_ok-table.ensures c.in_ok-add_places.ensures.rows c.in_ok-add_places.ensures.long c.in_ok-add_entries.ensures.rows c.in_ok-add_entries.ensures.long
