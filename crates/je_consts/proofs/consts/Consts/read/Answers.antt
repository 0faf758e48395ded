use Rattle.je_consts.proofs.consts.Consts.read.Goals as goal

pub returns-in_ok-of_places-in-Ok-clause-found : goal.returns-in_ok-of_places-in-Ok-clause-found
returns-in_ok-of_places-in-Ok-clause-found c = rw c.in_ok-of_places-in-Ok.ensures c.in-Ok.ensures.found
