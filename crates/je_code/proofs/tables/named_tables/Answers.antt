use Rattle.std.proofs.Common.{refl}
use Rattle.je_code.proofs.NameLemmas.{ascii_text}
use Rattle.je_code.proofs.tables.named_tables.Goals as goal

pub put_vars-requires-clause-name : goal.put_vars-requires-clause-name
put_vars-requires-clause-name c = ascii_text _ refl

pub put_vars-requires-2-clause-name : goal.put_vars-requires-2-clause-name
put_vars-requires-2-clause-name c = ascii_text _ refl
