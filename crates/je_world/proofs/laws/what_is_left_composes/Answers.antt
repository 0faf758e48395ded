use Rattle.je_world.proofs.LeadsLemmas.{left_refl, left_trans, left_look}
use Rattle.je_world.proofs.laws.what_is_left_composes.Goals as goal

pub returns-clause-none : goal.returns-clause-none
returns-clause-none c = λ old. left_refl old

pub returns-clause-both : goal.returns-clause-both
returns-clause-both c = λ old now new h k. left_trans h k

pub returns-clause-look : goal.returns-clause-look
returns-clause-look c = λ name old answer new h. left_look answer h
