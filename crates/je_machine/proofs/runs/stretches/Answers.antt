use Rattle.je_machine.proofs.ChainLemmas.{comes_then, comes_next, chain_runs, chain_then, chain_comes, comes_shows}
use Rattle.je_machine.proofs.runs.stretches.Goals as goal

pub returns-clause-joined : goal.returns-clause-joined
returns-clause-joined g c = λ step s t u p q. comes_then step s t u p q

pub returns-clause-one : goal.returns-clause-one
returns-clause-one g c = λ step s t p. comes_next step s t p

pub returns-clause-runs : goal.returns-clause-runs
returns-clause-runs g c = λ step count s t p n. chain_runs step count s t p n

pub returns-clause-chains_joined : goal.returns-clause-chains_joined
returns-clause-chains_joined g c = λ step m n s t u p q. chain_then step m n s t u p q

pub returns-clause-comes : goal.returns-clause-comes
returns-clause-comes g c = λ step count s t p. chain_comes step count s t p

pub returns-clause-shows : goal.returns-clause-shows
returns-clause-shows g c = λ step s t p n. comes_shows step s t p n
