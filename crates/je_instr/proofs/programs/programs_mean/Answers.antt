use Rattle.je_instr.proofs.ExampleLemmas as examples
use Rattle.je_instr.proofs.programs.programs_mean.Goals as goal

pub returns-clause-handler : goal.returns-clause-handler
returns-clause-handler c = examples.handler_is

pub returns-clause-to_end : goal.returns-clause-to_end
returns-clause-to_end c = examples.to_end_is

pub returns-clause-no_target : goal.returns-clause-no_target
returns-clause-no_target c = examples.no_target_is

pub returns-clause-no_range : goal.returns-clause-no_range
returns-clause-no_range c = examples.no_range_is

pub returns-clause-within : goal.returns-clause-within
returns-clause-within c = examples.within_is

pub returns-clause-whole : goal.returns-clause-whole
returns-clause-whole c = examples.whole_is
