use Rattle.std.proofs.Common.{ℕ, ◌<◌, length, ◌∙◌, ap, subst, get_or, arith}
use Rattle.je_instr.specs.Decoding.{Begins}
use Rattle.je_instr.proofs.PlaceLemmas.{placed, begins}
use Rattle.je_instr.proofs.targets.place_of.Goals as goal

pub returns-then-offset-places-clause-none : goal.returns-then-offset-places-clause-none
returns-then-offset-places-clause-none c k b =
    let p = (placed c.args.starts.now c.args.places.now c.args.offset k c.requires b).within in
    omega (arith, p, c.if-offset-places.true, c.get-offset.ensures)

pub returns-then-place-starts-clause-none : goal.returns-then-place-starts-clause-none
returns-then-place-starts-clause-none c k b =
    let o = c.get-offset.result in
    let p = placed c.args.starts.now c.args.places.now o k c.requires (rw c.get-offset.ensures b) in
    omega (arith, p.some, p.place, c.if-place-starts.true)

pub returns-then-starts-place-clause-some : goal.returns-then-starts-place-clause-some
returns-then-starts-place-clause-some c =
    let o = c.get-offset.result in
    let place = get_or c.args.places.now o 0 in
    let there : place < length c.args.starts.now = omega (arith, c.if-place-starts.false) in
    subst (λ (n : ℕ). Begins c.args.starts.now n place) c.get-offset.ensures
    (begins c.args.starts.now o place there c.if-starts-place.true)

pub returns-else-starts-place-clause-none : goal.returns-else-starts-place-clause-none
returns-else-starts-place-clause-none c k b =
    let o = c.get-offset.result in
    let p = placed c.args.starts.now c.args.places.now o k c.requires (rw c.get-offset.ensures b) in
    c.if-starts-place.false (ap (λ n. get_or c.args.starts.now n 0) p.place ∙ p.start)
