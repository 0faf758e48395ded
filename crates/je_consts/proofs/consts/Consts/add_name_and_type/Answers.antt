use Rattle.std.proofs.Common.{inr}
use Rattle.je_consts.proofs.AddLemmas.{keeps_trans}
use Rattle.je_consts.proofs.consts.Consts.add_name_and_type.Goals as goal

pub returns-clause-adds : goal.returns-clause-adds
returns-clause-adds c =
    inr (c.in_ok-name.name, c.add_text.new.self, c.in_ok-name.ensures.adds, inr (c.in_ok-descriptor.descriptor, c.add_text-2.new.self, c.in_ok-descriptor.ensures.adds, c.add.ensures.adds))

pub returns-clause-keeps : goal.returns-clause-keeps
returns-clause-keeps c =
    let texts = keeps_trans c.args.self.now c.add_text.new.self c.add_text-2.new.self c.in_ok-name.ensures.keeps c.in_ok-descriptor.ensures.keeps in
    keeps_trans c.args.self.now c.add_text-2.new.self c.add.new.self texts c.add.ensures.keeps
