use Rattle.je_class.proofs.OneAnswer.{same_class, class_no_fault, one_fault}
use Rattle.je_class.proofs.SomeAnswer.{Decisions, some_answer}
use Rattle.je_class.proofs.laws.one_class.Goals as goal

pub returns-clause-same : goal.returns-clause-same
returns-clause-same c = same_class c.one_class_way.ensures

pub returns-clause-no_fault : goal.returns-clause-no_fault
returns-clause-no_fault c = class_no_fault c.one_class_way.ensures

pub returns-clause-one_fault : goal.returns-clause-one_fault
returns-clause-one_fault c = one_fault c.one_class_way.ensures

pub returns-clause-some_answer : goal.returns-clause-some_answer
returns-clause-some_answer c bytes fits =
    let decided : Decisions = record {
      class_name = c.each_is_decided.ensures.class_name;
      field = c.each_is_decided.ensures.field;
      method = c.each_is_decided.ensures.method;
    } in
    some_answer bytes fits decided (λ at within. c.one_pool.ensures.some_answer bytes at fits within)
