use Rattle.std.proofs.Common.{◌≡◌, ap, subst, Option}
use Rattle.je_base.specs.Files.{Contents}
use Rattle.je_world.specs.World.{listed}
use Rattle.je_pool.specs.Loading.{SameTold}
use Rattle.je_pool.proofs.SeekLemmas.{same_listed}
use Rattle.je_pool.proofs.loader.Loader.find.Goals as goal

pub returns-clause-same : goal.returns-clause-same
returns-clause-same g c =
    let mid = c.list.new.self.pool.now in
    let new = c.seek-found.new.pool in
    let told = g.F.Files.contents c.args.self.now.files.now in
    let files : g.F.Files.contents c.list.new.self.files.now ≡ told = ap (λ r. g.F.Files.contents r.now) c.list.ensures.files in
    let P : Option Contents → Type 0 = λ t. SameTold t mid new in
    same_listed told c.args.self.now.pool.now mid new (listed c.args.name.now c.args.self.now.pool.now.asked) c.list.ensures.pool (subst P files c.seek-found.ensures.same)
