use Rattle.je_machine.proofs.OutsideLemmas.{act_kept, act_gives, act_right, act_answers, act_null}
use Rattle.je_machine.proofs.ResultLemmas.{answer_right, length_right}
use Rattle.je_machine.proofs.actions.actions_do.Goals as goal

pub returns-clause-keeps : goal.returns-clause-keeps
returns-clause-keeps c = act_kept

pub returns-clause-gives : goal.returns-clause-gives
returns-clause-gives c = act_gives

pub returns-clause-right_operands : goal.returns-clause-right_operands
returns-clause-right_operands c = act_right

pub returns-clause-right_results : goal.returns-clause-right_results
returns-clause-right_results c = act_answers

pub returns-clause-null_targets : goal.returns-clause-null_targets
returns-clause-null_targets c = act_null

pub returns-clause-own_results : goal.returns-clause-own_results
returns-clause-own_results c = answer_right

pub returns-clause-lengths : goal.returns-clause-lengths
returns-clause-lengths c = length_right
