use Rattle.std.proofs.Common.{◌≡◌, ◌++◌, sym, subst}
use Rattle.std.proofs.lemmas.List.{append-nil}
use Rattle.je_consts.specs.Pool.{IsPool}
use Rattle.je_consts.proofs.consts.Consts.of_places.Goals as goal

pub invariant_of-result : goal.invariant_of-result
invariant_of-result c =
    let is : c.in_ok-base.base.value.items ++ c.new-2.result.items ≡ c.args.places.items = rw (c.in_ok-base.ensures.ok, c.new-2.ensures.items) (append-nil c.args.places.items) in
    (rw c.in_ok-base.ensures.ok c.requires.spelled, subst IsPool (sym is) c.requires.pool, tt, tt)
