use Rattle.je_consts.proofs.OneEntry.{no_values}
use Rattle.je_consts.proofs.laws.one_entry_way.Goals as goal

pub one_way-requires : goal.one_way-requires
one_way-requires c = no_values
