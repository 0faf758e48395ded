use Rattle.std.proofs.Common.{◌∙◌, sym, ap, Some}
use Rattle.je_machine.specs.Value.{Value}
use Rattle.je_value.specs.Calculation.{whole_in, binary_in, shift_in}
use Rattle.je_value.proofs.OperandLemmas.{binary_calculated, shift_calculated}
use Rattle.je_value.proofs.calculation.calculate.Goals as goal

pub returns-in-Binary : goal.returns-in-Binary
returns-in-Binary c =
    rw c.in-Binary.is
    (c.binary.ensures
    ∙ sym (binary_calculated (whole_in c.in-Binary.whole) (binary_in c.in-Binary.op)
    c.args.operands.now))

pub returns-in-Shift : goal.returns-in-Shift
returns-in-Shift c =
    rw c.in-Shift.is
    (ap {A = Value} (λ v. Some v) c.shift.ensures
    ∙ sym (shift_calculated (whole_in c.in-Shift.whole) (shift_in c.in-Shift.op)
    c.args.operands.now))
