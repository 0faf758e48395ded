use Rattle.std.proofs.Common.{◌<◌, ◌-◌, arith}
use Rattle.std.proofs.lemmas.Bool.{eqb-true, eq-eqb}
use Rattle.je_instr.specs.Content.{content_at}
use Rattle.je_instr.proofs.ConstLemmas.{counted_in}
use Rattle.je_instr.proofs.calls.is_counted.Goals as goal

pub returns-then-count-ne0 : goal.returns-then-count-ne0
returns-then-count-ne0 c =
    let some : 0 < c.args.count = omega (arith, c.if-count-ne0.true) in
    let is = counted_in (content_at c.args.consts.now c.args.index) c.args.count c.in-Some.units some c.in-Some.ensures.some in
    (λ h. is.0 (eqb-true c.in-Some.units (c.args.count - 1) h), λ k. eq-eqb c.in-Some.units (c.args.count - 1) (is.1 k))
