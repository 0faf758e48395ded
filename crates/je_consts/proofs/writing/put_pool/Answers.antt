use Rattle.je_consts.specs.Pool.{Fits, OfEntry}
use Rattle.je_consts.proofs.SpacedLemmas.{All-behind}
use Rattle.je_consts.proofs.writing.put_pool.Goals as goal

pub put_places-requires : goal.put_places-requires
put_places-requires c = All-behind (OfEntry Fits) c.args.base.now c.args.tail.now c.requires.each
