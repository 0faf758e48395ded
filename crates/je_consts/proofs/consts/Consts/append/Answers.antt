use Rattle.je_consts.proofs.AddLemmas.{IsPool-grown}
use Rattle.je_consts.proofs.consts.Consts.append.Goals as goal

pub invariant_of-self : goal.invariant_of-self
invariant_of-self c =
    let base = c.self.inside.base.value.items in
    let old = c.self.inside.tail.items in
    let names = rw (← c.self.view_is) at c.requires.names in
    let room = rw (← c.self.view_is) at c.requires.room in
    let pool = IsPool-grown c.grow.result base old c.grow.new.places.items c.args.entry c.self.invariant.1 c.requires.fits names room c.grow.ensures.ok c.grow.ensures.err in
    (c.self.invariant.0, pool, c.self.invariant.2, c.grow.ensures.index)
