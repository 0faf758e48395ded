use Rattle.je_session.proofs.TokenLemmas.{SkipsWhite-front}
use Rattle.je_session.proofs.script.tokens.after_white.Goals as goal

pub returns : goal.returns
returns c =
    let front = c.white_len.ensures in
    rw c.split_at.ensures.back (SkipsWhite-front c.args.text.now c.white_len.result front.within front.before front.ends)
