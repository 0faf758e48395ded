use Rattle.std.specs.Int.{w64}
use Rattle.je_value.proofs.ArithmeticLemmas.{quotient_came}
use Rattle.je_value.proofs.arithmetic.long_quotient.Goals as goal

pub returns : goal.returns
returns c =
    quotient_came w64 c.args.x c.args.y _ c.ranges.x c.ranges.y
    (record { sfits = c.wrapping_div.type_inv }) c.wrapping_div.ensures
