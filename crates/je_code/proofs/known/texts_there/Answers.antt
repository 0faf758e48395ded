use Rattle.je_code.proofs.PutLemmas.{known_texts}
use Rattle.je_code.proofs.known.texts_there.Goals as goal

pub returns-clause-none : goal.returns-clause-none
returns-clause-none c texts old new refusal known h = (known_texts texts old new refusal known h).0

pub returns-clause-same : goal.returns-clause-same
returns-clause-same c texts old new refusal known h = (known_texts texts old new refusal known h).1
