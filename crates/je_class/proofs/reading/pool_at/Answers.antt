use Rattle.je_class.proofs.Comes.{pool_comes}
use Rattle.je_class.proofs.reading.pool_at.Goals as goal

pub returns-in-Ok : goal.returns-in-Ok
returns-in-Ok c = pool_comes c.args.bytes.now c.args.at c.in-Ok.end c.in-Ok.places (rw c.requires.same at c.in-Ok.ensures.found)
