use Rattle.std.proofs.Common.{◌≤◌, length, drop, ap, arith}
use Rattle.je_base.proofs.BytesLemmas.{there_4}
use Rattle.je_base.proofs.bytes.u32_at.Goals as goal

pub returns-clause-there : goal.returns-clause-there
returns-clause-there c =
    let long : 4 ≤ length (drop c.args.at c.args.bytes.now) = omega (arith, ap length c.from-rest.ensures) in
    there_4 c.args.bytes.now c.args.at c.from_be_bytes-number.result long (λ i. omega (arith, c.type_inv.bytes i)) cc
