use Rattle.std.proofs.Common.{sym, ◌∙◌}
use Rattle.je_instr.specs.Resolves.{CallOperation}
use Rattle.je_value.specs.Action.{sort_in}
use Rattle.je_link.proofs.NameLemmas.{named_here}
use Rattle.je_link.proofs.fields.call.Goals as goal

pub returns-in-Some-2 : goal.returns-in-Some-2
returns-in-Some-2 c = λ o h.
    let sort = sort_in c.args.sort in
    let x = named_here c.args.consts.now c.args.index (CallOperation sort o) c.in-Some.content (sym c.in_ok-content.ensures ∙ c.in-Some.is) h in
    let t = c.in_ok-types.ensures sort x.0 x.1 in
    cc (t, x.2, c.act.ensures, c.in-Some-2.is)

pub returns-in-None : goal.returns-in-None
returns-in-None c = λ o h.
    let sort = sort_in c.args.sort in
    let x = named_here c.args.consts.now c.args.index (CallOperation sort o) c.in-Some.content (sym c.in_ok-content.ensures ∙ c.in-Some.is) h in
    let t = c.in_ok-types.ensures sort x.0 x.1 in
    absurd (cc (t, c.in-None.is))
