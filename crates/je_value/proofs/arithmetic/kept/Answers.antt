use Rattle.std.proofs.Common.{◌∙◌, arith}
use Rattle.std.specs.Int.{w8, w16, w32}
use Rattle.je_value.proofs.ArithmeticLemmas.{low_bits, as_int}
use Rattle.je_value.proofs.arithmetic.kept.Goals as goal

pub returns-in-Byte : goal.returns-in-Byte
returns-in-Byte c =
    rw c.in-Byte.is
    (as_int w8 c.cast_signed.result (record { sfits = c.cast_signed.type_inv })
    (record { sfits = omega (arith, c.cast_signed.type_inv) })
    ∙ low_bits w32 w8 c.args.n _ _ c.ranges.n (record { sfits = c.rem_euclid.type_inv })
    c.rem_euclid.ensures.value c.cast_signed.ensures)

pub returns-in-Short : goal.returns-in-Short
returns-in-Short c =
    let s = c.cast_signed-in-Short in
    let r = c.rem_euclid-in-Short in
    rw c.in-Short.is
    (as_int w16 s.result (record { sfits = s.type_inv })
    (record { sfits = omega (arith, s.type_inv) })
    ∙ low_bits w32 w16 c.args.n _ _ c.ranges.n (record { sfits = r.type_inv }) r.ensures.value
    s.ensures)
