use Rattle.je_consts.specs.Pool.{places_of}
use Rattle.je_consts.proofs.AddLemmas.{keeps_front, const_added}
use Rattle.je_consts.proofs.consts.Consts.add.Goals as goal

pub returns-clause-there : goal.returns-clause-there
returns-clause-there c = rw (c.in_ok-append.ensures.ok, c.count-old_count.ensures.count) (const_added c.build_index.new.self c.args.c)

pub returns-clause-keeps : goal.returns-clause-keeps
returns-clause-keeps c = rw (c.in_ok-append.ensures.ok, c.build_index.ensures) (keeps_front c.args.self.now (places_of c.args.c))
