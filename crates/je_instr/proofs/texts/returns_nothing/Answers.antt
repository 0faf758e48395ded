use Rattle.std.proofs.Common.{◌-◌, refl, length, get_or}
use Rattle.std.proofs.lemmas.Bool.{eqb-true}
use Rattle.je_instr.proofs.TextLemmas.{nothing_is}
use Rattle.je_instr.proofs.texts.returns_nothing.Goals as goal

pub returns : goal.returns
returns c m s =
    let is = nothing_is c.args.text.now m s in
    (λ h. is.0 (eqb-true (get_or c.args.text.now (length c.args.text.now - 1) 0) 86 h), λ k. rw (is.1 k) refl)
