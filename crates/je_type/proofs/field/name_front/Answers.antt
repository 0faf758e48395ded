use Rattle.std.proofs.Common.{◌≡◌, Some, sym, subst, refl}
use Rattle.std.specs.Prelude.{◌==◌}
use Rattle.std.specs.List.{position}
use Rattle.je_base.specs.Text.{IsModifiedUtf8}
use Rattle.je_type.proofs.NameLemmas.{end_is, name_read}
use Rattle.je_type.proofs.field.name_front.Goals as goal

pub returns-in_default-clause-reads : goal.returns-in_default-clause-reads
returns-in_default-clause-reads c = λ name x named whole form.
    absurd (cc (end_is name x c.args.bytes.now named whole, c.name_end.ensures.place, c.in_default.is))

pub returns-in-Some-2-clause-reads : goal.returns-in-Some-2-clause-reads
returns-in-Some-2-clause-reads c = λ name x named whole.
    let at : position (λ byte. byte == 59) c.args.bytes.now ≡ Some c.in-Some.end = cc (c.name_end.ensures.place, c.in-Some.is) in
    name_read name x c.args.bytes.now named whole c.in-Some.end c.in-Some-2.name at (rw c.in-Some-2.is at c.in_ok-name.ensures.text)

pub returns-in-None-clause-reads : goal.returns-in-None-clause-reads
returns-in-None-clause-reads c = λ name x named whole form.
    let at : position (λ byte. byte == 59) c.args.bytes.now ≡ Some c.in-Some.end = cc (c.name_end.ensures.place, c.in-Some.is) in
    let none = rw c.in-None.is at c.in_ok-name.ensures.none in
    let taken = (name_read name x c.args.bytes.now named whole c.in-Some.end _ at refl).0 in
    none (subst IsModifiedUtf8 (sym taken) form)
