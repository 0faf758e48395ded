use Rattle.std.proofs.Common.{◌≡◌, ◌∷◌, ◌∙◌, sym, ap, subst, rules, length}
use Rattle.je_desc.specs.FieldType.{FieldType, Array}
use Rattle.je_desc.specs.Types.{field_type_of}
use Rattle.je_type.specs.Texts.{HasText}
use Rattle.je_type.proofs.TypeLemmas.{is_Array}
use Rattle.je_type.proofs.FrontLemmas.{no_front, front_whole, flat_front, array_front}
use Rattle.je_type.proofs.field.+type_front.Goals as goal

pub returns-in_default-clause-reads : goal.returns-in_default-clause-reads
returns-in_default-clause-reads t c = λ of x front form.
    let none : length c.args.bytes.now ≡ 0 = search rules in absurd (no_front of x c.args.bytes.now none front)

pub returns-then-first-ne91-clause-reads : goal.returns-then-first-ne91-clause-reads
returns-then-first-ne91-clause-reads t c = λ of x front.
    let split : c.args.bytes.now ≡ c.in-Some.first.now ∷ c.in-Some.rest.now = search rules in
    c.element_front.ensures.reads of x front.named
    (flat_front of x c.args.bytes.now _ _ split front c.if-first-ne91.true)
    (front_whole of x c.args.bytes.now _ _ split front)

pub returns-in_ok-component-in-Some-2-clause-reads : goal.returns-in_ok-component-in-Some-2-clause-reads
returns-in_ok-component-in-Some-2-clause-reads t c = λ of x front.
    let split : c.args.bytes.now ≡ c.in-Some.first.now ∷ c.in-Some.rest.now = search rules in
    let inner = array_front of x c.args.bytes.now _ _ split front c.if-first-ne91.false in
    let read = rw c.in-Some-2.is at (c.in_ok-component.ensures.reads inner.component x inner.front) in (
      is_Array c.in_ok-component-in-Some-2.component
          ∙ ap (λ (u : FieldType). Array u) (ap field_type_of c.in_ok-component-in-Some-2.ensures ∙ read.0) ∙ sym inner.is,
      read.1,
    )

pub returns-in-None-clause-reads : goal.returns-in-None-clause-reads
returns-in-None-clause-reads t c = λ of x front form.
    let split : c.args.bytes.now ≡ c.in-Some.first.now ∷ c.in-Some.rest.now = search rules in
    let inner = array_front of x c.args.bytes.now _ _ split front c.if-first-ne91.false in
    let read = rw c.in-None.is at (c.in_ok-component.ensures.reads inner.component x inner.front) in
    read (subst HasText inner.is form)
