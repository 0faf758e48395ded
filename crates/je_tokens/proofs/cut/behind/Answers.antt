use Rattle.je_tokens.proofs.CutLemmas.{fits_behind}
use Rattle.je_tokens.proofs.cut.behind.Goals as goal

pub returns-clause-fits : goal.returns-clause-fits
returns-clause-fits c =
    rw (c.place_after.ensures, c.split_at.ensures.front, c.split_at.ensures.back)
    (fits_behind c.args.len 18446744073709551616 c.args.rest.place c.args.rest.text.now c.requires.fits)
