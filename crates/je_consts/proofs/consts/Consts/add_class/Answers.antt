use Rattle.je_consts.proofs.AddLemmas.{keeps_trans}
use Rattle.je_consts.proofs.consts.Consts.add_class.Goals as goal

pub returns-clause-keeps : goal.returns-clause-keeps
returns-clause-keeps c = keeps_trans c.args.self.now c.add_text.new.self c.add.new.self c.in_ok-text.ensures.keeps c.add.ensures.keeps
