use Rattle.std.proofs.Common.{◌∙◌}
use Rattle.je_heap.proofs.KeyLemmas.{got_is}
use Rattle.je_heap.proofs.fields.entry_of.Goals as goal

pub returns : goal.returns
returns c = c.first_of.ensures ∙ got_is c.args.entries.now c.args.key.now
