use Rattle.je_consts.proofs.OneAnswer.{one_pool, pool_no_fault, one_fault, some_answer}
use Rattle.je_consts.proofs.laws.one_pool.Goals as goal

pub returns-clause-same : goal.returns-clause-same
returns-clause-same c bytes at = one_pool c.one_entry_way.ensures bytes at

pub returns-clause-no_fault : goal.returns-clause-no_fault
returns-clause-no_fault c bytes at = pool_no_fault c.one_entry_way.ensures bytes at

pub returns-clause-one_fault : goal.returns-clause-one_fault
returns-clause-one_fault c bytes at = one_fault c.one_entry_way.ensures bytes at

pub returns-clause-some_answer : goal.returns-clause-some_answer
returns-clause-some_answer c bytes at fits within = some_answer bytes at fits within
