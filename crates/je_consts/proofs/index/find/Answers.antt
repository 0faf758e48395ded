use Rattle.je_consts.proofs.IndexLemmas.{found_least}
use Rattle.je_consts.proofs.index.find.Goals as goal

pub returns-in-Some-clause-some : goal.returns-in-Some-clause-some
returns-in-Some-clause-some c =
    found_least c.args.places.now c.in-Some.index.now (rw c.in-Some.is at c.requires.index) c.args.entry.now c.get.result c.get.ensures
