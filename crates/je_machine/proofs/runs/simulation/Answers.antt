use Rattle.je_machine.proofs.SimulationLemmas.{simulated, simulation_agrees}
use Rattle.je_machine.proofs.runs.simulation.Goals as goal

pub returns-clause-follows : goal.returns-clause-follows
returns-clause-follows g c = λ pairs old new simulates i n. simulated pairs old new simulates i n

pub returns-clause-agrees : goal.returns-clause-agrees
returns-clause-agrees g c = λ pairs old new simulates steady i. simulation_agrees pairs old new simulates steady i
