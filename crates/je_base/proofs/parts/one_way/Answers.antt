use Rattle.je_base.proofs.PartsLemmas.{one_way}
use Rattle.je_base.proofs.parts.one_way.Goals as goal

pub returns : goal.returns
returns g c = one_way g.F.Parted.format c.one_reading.ensures c.requires
