use Rattle.je_desc.specs.FieldType.{Array}
use Rattle.je_machine.specs.Action.{NewArray}
use Rattle.je_link.proofs.NameLemmas.{array_named}
use Rattle.je_link.proofs.classes.reference_array.Goals as goal

pub returns-in_ok-of-in-Some : goal.returns-in_ok-of-in-Some
returns-in_ok-of-in-Some c = λ o h.
    let a = array_named c.args.consts.now c.args.index (λ t. NewArray (Array t) 1) o h in
    let t = c.in_ok-of.ensures.only a.type a.here in
    cc (t, a.so, c.act.ensures, c.in-Some.is, c.in_ok-of-in-Some.ensures)

pub returns-in-None : goal.returns-in-None
returns-in-None c = λ o h.
    let a = array_named c.args.consts.now c.args.index (λ t. NewArray (Array t) 1) o h in
    let t = c.in_ok-of.ensures.only a.type a.here in
    absurd (cc (t, c.in-None.is))
