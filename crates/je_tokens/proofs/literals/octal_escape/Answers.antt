use Rattle.std.proofs.Common.{◌≤◌, arith}
use Rattle.je_tokens.proofs.NumberLemmas.{octal_fits}
use Rattle.je_tokens.proofs.literals.octal_escape.Goals as goal
use Rattle.je_tokens.proofs.literals.octal_escape.Goals.{then-first-le51, else-first-le51}

pub short_number-requires-clause-fits : goal.short_number-requires-clause-fits
short_number-requires-clause-fits c =
    let most : c.if-first-le51.most ≤ 3 = elim c.if-first-le51.branch [ then-first-le51 w ↦ omega (arith, w.most-is) | else-first-le51 w ↦ omega (arith, w.most-is) ] in
    octal_fits c.octal_len.result c.if-first-le51.most c.args.text.now c.front-front.result.now c.split_at.result.0.now most c.front-front.ensures c.octal_len.ensures.value c.split_at.ensures.front
