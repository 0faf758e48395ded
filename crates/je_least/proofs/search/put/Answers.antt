use Rattle.std.proofs.lemmas.List.{map-set}
use Rattle.je_least.specs.Knowns.{known_seen}
use Rattle.je_least.proofs.search.put.Goals as goal

pub returns-clause-table : goal.returns-clause-table
returns-clause-table c = map-set known_seen c.args.search.now.table.items c.args.to c.args.more
