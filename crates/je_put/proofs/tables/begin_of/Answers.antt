use Rattle.je_put.proofs.TablesLemmas.{begin_within, begin_past}
use Rattle.je_put.proofs.tables.begin_of.Goals as goal

pub returns-then-place-begins : goal.returns-then-place-begins
returns-then-place-begins c items is = begin_within c.args.begins.now items c.args.place is c.if-place-begins.true

pub returns-else-place-begins : goal.returns-else-place-begins
returns-else-place-begins c items is = begin_past c.args.begins.now items c.args.place is c.if-place-begins.false
