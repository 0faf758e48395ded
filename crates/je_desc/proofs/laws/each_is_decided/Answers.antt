use Rattle.je_desc.proofs.Decides.{class_name, field, method}
use Rattle.je_desc.proofs.laws.each_is_decided.Goals as goal

pub returns-clause-class_name : goal.returns-clause-class_name
returns-clause-class_name c = class_name

pub returns-clause-field : goal.returns-clause-field
returns-clause-field c = field

pub returns-clause-method : goal.returns-clause-method
returns-clause-method c = method
