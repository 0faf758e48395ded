use Rattle.std.proofs.Common.{◌∙◌}
use Rattle.std.specs.Int.{w32, w64}
use Rattle.std.proofs.lemmas.Int.{to_z-of_z}
use Rattle.je_value.proofs.ArithmeticLemmas.{low_bits}
use Rattle.je_value.proofs.arithmetic.truncated.Goals as goal

pub returns : goal.returns
returns c =
    to_z-of_z w32 _ (record { sfits = c.cast_signed.type_inv })
    ∙ low_bits w64 w32 c.args.n _ _ c.ranges.n (record { sfits = c.rem_euclid.type_inv })
    c.rem_euclid.ensures.value c.cast_signed.ensures
