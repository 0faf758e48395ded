use Rattle.je_builtin.specs.BuiltIns.{built_ins}
use Rattle.je_builtin.proofs.FitLemmas.{answers_named, answers_fit}
use Rattle.je_builtin.proofs.find.built_in.Goals as goal

pub returns-clause-found : goal.returns-clause-found
returns-clause-found c = rw c.table.ensures.rows at c.class_in.ensures

pub returns-clause-named : goal.returns-clause-named
returns-clause-named c =
    answers_named c.args.name.now built_ins c.class_in.result (rw c.table.ensures.rows at c.class_in.ensures)

pub returns-clause-fit : goal.returns-clause-fit
returns-clause-fit c =
    answers_fit c.args.name.now built_ins c.class_in.result c.table.ensures.fit (rw c.table.ensures.rows at c.class_in.ensures)
