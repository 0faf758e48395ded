use Rattle.std.proofs.Common.{◌∙◌, ℕ, List, sym, ap, subst}
use Rattle.je_desc.specs.FieldType.{Object}
use Rattle.je_type.specs.Texts.{HasText}
use Rattle.je_type.proofs.TypeLemmas.{is_Class}
use Rattle.je_type.proofs.FrontLemmas.{base_front, class_front}
use Rattle.je_type.proofs.field.element_front.Goals as goal

pub returns-in-Some-clause-reads : goal.returns-in-Some-clause-reads
returns-in-Some-clause-reads c = λ t x named flat whole.
    let read = base_front t c.args.first c.args.rest.now x c.base_of.result c.base_of.ensures flat c.if-first-ne76.true whole in
    rw c.in-Some.is at read

pub returns-in-None-clause-reads : goal.returns-in-None-clause-reads
returns-in-None-clause-reads c = λ t x named flat whole form.
    let read = base_front t c.args.first c.args.rest.now x c.base_of.result c.base_of.ensures flat c.if-first-ne76.true whole in
    (rw c.in-None.is at read).0

pub returns-in-Some-2-clause-reads : goal.returns-in-Some-2-clause-reads
returns-in-Some-2-clause-reads c = λ t x named flat whole.
    let front = class_front t c.args.first c.args.rest.now x named flat c.if-first-ne76.false whole in
    let read = rw c.in-Some-2.is at (c.in_ok-name.ensures.reads front.name x front.named front.whole) in
    (is_Class c.in-Some-2.name ∙ ap (λ (n : List ℕ). Object n) read.0 ∙ sym front.is, read.1)

pub returns-in-None-2-clause-reads : goal.returns-in-None-2-clause-reads
returns-in-None-2-clause-reads c = λ t x named flat whole form.
    let front = class_front t c.args.first c.args.rest.now x named flat c.if-first-ne76.false whole in
    let read = rw c.in-None-2.is at (c.in_ok-name.ensures.reads front.name x front.named front.whole) in
    read (subst HasText front.is form)
