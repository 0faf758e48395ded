use Rattle.std.proofs.Common.{rules, arith}
use Rattle.std.proofs.lemmas.Str.{chars_from_encodes}
use Rattle.je_tokens.proofs.CutLemmas.{characters_fit}
use Rattle.je_tokens.proofs.cut.characters.Goals as goal

pub returns-clause-all : goal.returns-clause-all
returns-clause-all c = search (rules, chars_from_encodes)

pub returns-clause-fits : goal.returns-clause-fits
returns-clause-fits c = characters_fit c.args.text.now _ 18446744073709551616 c.utf8.text (returns-clause-all c) (omega arith)
