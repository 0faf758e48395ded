use Rattle.je_consts.proofs.ThereLemmas.{text_exactly, class_exactly, pair_exactly, member_exactly}
use Rattle.je_consts.proofs.laws.found_by_tag.Goals as goal

pub returns-clause-text : goal.returns-clause-text
returns-clause-text c = text_exactly

pub returns-clause-class_name : goal.returns-clause-class_name
returns-clause-class_name c = class_exactly

pub returns-clause-name_and_type : goal.returns-clause-name_and_type
returns-clause-name_and_type c = pair_exactly

pub returns-clause-member : goal.returns-clause-member
returns-clause-member c = member_exactly
