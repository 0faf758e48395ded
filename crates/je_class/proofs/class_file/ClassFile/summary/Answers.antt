use Rattle.je_class.proofs.SummaryFits.{fit_result}
use Rattle.je_class.proofs.class_file.ClassFile.summary.Goals as goal

pub returns-clause-fit : goal.returns-clause-fit
returns-clause-fit c = fit_result c.args.self.now c.summary_of.result c.sound.ensures.sound c.summary_of.ensures
