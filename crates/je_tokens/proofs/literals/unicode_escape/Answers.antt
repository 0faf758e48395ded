use Rattle.je_tokens.proofs.NumberLemmas.{hexadecimal_fits}
use Rattle.je_tokens.proofs.literals.unicode_escape.Goals as goal

pub short_number-requires-clause-fits : goal.short_number-requires-clause-fits
short_number-requires-clause-fits c =
    hexadecimal_fits c.hexadecimal_len.result c.front-front.result.now c.split_at.result.0.now c.if-digits-eq4.true c.hexadecimal_len.ensures.value c.split_at.ensures.front
