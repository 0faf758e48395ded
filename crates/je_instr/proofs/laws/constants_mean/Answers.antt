use Rattle.je_instr.proofs.ContentLemmas.{each_means, class_means, string_means, member_means}
use Rattle.je_instr.proofs.ContentLemmas.{pair_means, type_means, handle_means, dynamic_means}
use Rattle.je_instr.proofs.laws.constants_mean.Goals as goal

pub returns-clause-each : goal.returns-clause-each
returns-clause-each c = each_means

pub returns-clause-class : goal.returns-clause-class
returns-clause-class c = class_means

pub returns-clause-string : goal.returns-clause-string
returns-clause-string c = string_means

pub returns-clause-member : goal.returns-clause-member
returns-clause-member c = member_means

pub returns-clause-handle : goal.returns-clause-handle
returns-clause-handle c = handle_means

pub returns-clause-dynamic : goal.returns-clause-dynamic
returns-clause-dynamic c = dynamic_means

pub returns-clause-pair : goal.returns-clause-pair
returns-clause-pair c = pair_means

pub returns-clause-method_type : goal.returns-clause-method_type
returns-clause-method_type c = type_means
