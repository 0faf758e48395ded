use Rattle.std.proofs.Common.{◌≤◌, ◌+◌, ◌*◌, arith}
use Rattle.std.specs.Char.{digit_value}
use Rattle.je_tokens.proofs.NumberLemmas.{too_large}
use Rattle.je_tokens.proofs.numbers.number.Goals as goal

pub returns-in_err-checked_mul : goal.returns-in_err-checked_mul
returns-in_err-checked_mul c =
    let over : 18446744073709551616 ≤ c.loop-digit.value * c.args.base + digit_value c.digit-item.result = grind (arith, c.in_err-checked_mul.ensures) in
    rw c.from_residual.ensures
    (too_large c.args.base c.loop-digit.digit-index 18446744073709551616 c.loop-digit.value c.digit-item.result c.args.digits.now (omega arith) (omega arith) c.digit-item.is c.loop-digit.invariant over)

pub returns-in_err-value : goal.returns-in_err-value
returns-in_err-value c =
    let over : 18446744073709551616 ≤ c.loop-digit.value * c.args.base + digit_value c.digit-item.result = grind (arith, c.in_err-value.ensures, c.in_ok-checked_mul.ensures, c.digit_value.ensures) in
    rw c.from_residual-in_err-value.ensures
    (too_large c.args.base c.loop-digit.digit-index 18446744073709551616 c.loop-digit.value c.digit-item.result c.args.digits.now (omega arith) (omega arith) c.digit-item.is c.loop-digit.invariant over)
