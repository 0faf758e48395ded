use Rattle.je_pool.proofs.PoolLemmas.{puts_changed}
use Rattle.je_pool.proofs.pool.Pool.change.Goals as goal

pub returns-in-Ok-clause-puts : goal.returns-in-Ok-clause-puts
returns-in-Ok-clause-puts c = puts_changed c.args.self.now c.exchange.new.self c.args.id.0 c.args.class c.in-Ok.ensures.ok c.requires.same_name
