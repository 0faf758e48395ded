use Rattle.std.proofs.Common.{inr, rules}
use Rattle.je_consts.specs.Adding.{AddsMember}
use Rattle.je_consts.proofs.AddLemmas.{keeps_trans, class_kept, pair_kept, member_names, there_member}
use Rattle.je_consts.proofs.OneAdd.{AddsMember-one, full_too}
use Rattle.je_consts.proofs.consts.Consts.add_member.Goals as goal

pub returns-in_err-member-clause-keeps : goal.returns-in_err-member-clause-keeps
returns-in_err-member-clause-keeps c =
    keeps_trans c.args.self.now c.add_class.new.self c.add_name_and_type.new.self c.in_ok-class.ensures.keeps c.in_err-member.ensures.keeps

pub add-requires-clause-names : goal.add-requires-clause-names
add-requires-clause-names c =
    let class = class_kept c.add_class.new.self c.add_name_and_type.new.self c.in_ok-member.ensures.keeps c.in_ok-class.class c.args.owner.now c.in_ok-class.ensures.there in
    rw c.member_of.ensures (member_names c.args.kind c.add_name_and_type.new.self c.in_ok-class.class c.in_ok-member.member c.args.owner.now c.args.name.now c.args.descriptor.now class c.in_ok-member.ensures.there)

pub returns-clause-adds : goal.returns-clause-adds
returns-clause-adds c =
    let last = rw c.member_of.ensures at c.add.ensures.adds in
    inr (c.in_ok-class.class, c.add_class.new.self, c.in_ok-class.ensures.adds, inr (c.in_ok-member.member, c.add_name_and_type.new.self, c.in_ok-member.ensures.adds, last))

pub returns-clause-there : goal.returns-clause-there
returns-clause-there c =
    let there = rw c.member_of.ensures at c.add.ensures.there in
    let class = class_kept c.add_class.new.self c.add_name_and_type.new.self c.in_ok-member.ensures.keeps c.in_ok-class.class c.args.owner.now c.in_ok-class.ensures.there in
    let class' = class_kept c.add_name_and_type.new.self c.add.new.self c.add.ensures.keeps c.in_ok-class.class c.args.owner.now class in
    let pair = pair_kept c.add_name_and_type.new.self c.add.new.self c.add.ensures.keeps c.in_ok-member.member c.args.name.now c.args.descriptor.now c.in_ok-member.ensures.there in
    there_member c.args.kind c.add.result c.add.new.self c.in_ok-class.class c.in_ok-member.member c.args.owner.now c.args.name.now c.args.descriptor.now there class' pair

pub returns-clause-keeps : goal.returns-clause-keeps
returns-clause-keeps c =
    let front = keeps_trans c.args.self.now c.add_class.new.self c.add_name_and_type.new.self c.in_ok-class.ensures.keeps c.in_ok-member.ensures.keeps in
    keeps_trans c.args.self.now c.add_name_and_type.new.self c.add.new.self front c.add.ensures.keeps

pub returns-in_err-member-clause-full : goal.returns-in_err-member-clause-full
returns-in_err-member-clause-full c =
    let R = AddsMember c.args.kind c.args.owner.now c.args.name.now c.args.descriptor.now in
    let adds : R c.args.self.now c.from_residual-in_err-member.result c.add_name_and_type.new.self = search rules in
    full_too R (AddsMember-one c.args.kind c.args.owner.now c.args.name.now c.args.descriptor.now) c.args.self.now c.from_residual-in_err-member.result c.add_name_and_type.new.self adds

pub returns-clause-full : goal.returns-clause-full
returns-clause-full c =
    let R = AddsMember c.args.kind c.args.owner.now c.args.name.now c.args.descriptor.now in
    full_too R (AddsMember-one c.args.kind c.args.owner.now c.args.name.now c.args.descriptor.now) c.args.self.now c.add.result c.add.new.self (returns-clause-adds c)
