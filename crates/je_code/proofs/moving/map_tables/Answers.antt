use Rattle.std.proofs.Common.{rules, get_or}
use Rattle.je_code.proofs.MovedLemmas.{moved_by_list, moved_few}
use Rattle.je_code.proofs.moving.map_tables.Goals as goal

pub returns-clause-inside : goal.returns-clause-inside
returns-clause-inside c = moved_by_list _ _ c.args.new_of.now c.args.code.now _ c.requires.new_of (search rules)

pub returns-clause-few : goal.returns-clause-few
returns-clause-few c = moved_few (λ i. get_or c.args.new_of.now i 0) c.args.count c.args.code.now _ c.requires.rows (search rules)
