use Rattle.je_machine.specs.Action.{NewArray}
use Rattle.je_link.proofs.NameLemmas.{array_named}
use Rattle.je_link.proofs.classes.arrays.Goals as goal

pub returns-in-Some : goal.returns-in-Some
returns-in-Some c = λ o h.
    let a = array_named c.args.consts.now c.args.index (λ t. NewArray t c.args.count) o h in
    let t = c.in_ok-of.ensures.only a.type a.here in
    cc (t, a.so, c.act.ensures, c.in-Some.is)

pub returns-in-None : goal.returns-in-None
returns-in-None c = λ o h.
    let a = array_named c.args.consts.now c.args.index (λ t. NewArray t c.args.count) o h in
    let t = c.in_ok-of.ensures.only a.type a.here in
    absurd (cc (t, c.in-None.is))
