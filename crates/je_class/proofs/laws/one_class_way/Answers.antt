use Rattle.je_class.proofs.OneClass.{one_pool_value}
use Rattle.je_class.proofs.laws.one_class_way.Goals as goal

pub one_way-requires : goal.one_way-requires
one_way-requires c = one_pool_value c.one_pool.ensures.same c.one_pool.ensures.no_fault c.one_pool.ensures.one_fault
