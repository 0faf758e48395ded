-- Conditions and what works on the stack as plain data: each has a form.
use Rattle.std.specs.Prelude.{◌≡◌, refl}
use Rattle.std.proofs.Common.{ap}
use Rattle.std.specs.Coded.{Coded, code_by}
use Rattle.je_machine.specs.Operation as machine
use Rattle.je_machine.specs.Condition as conditions
use Rattle.je_value.specs.Condition.{comparison_in, condition_in}
use Rattle.je_value.specs.Basic.{basic_in}
use Rattle.je_value.specs.declared.condition.Comparison.{Comparison}
use Rattle.je_value.specs.declared.condition.Comparison.TheVariants as comparisons
use Rattle.je_value.specs.declared.condition.Condition.{Condition}
use Rattle.je_value.specs.declared.condition.Condition.TheVariants as tests
use Rattle.je_value.specs.declared.basic.BasicForm.{BasicForm}
use Rattle.je_value.specs.declared.basic.BasicForm.TheVariants as basics
use Rattle.je_value.specs.contracts.basic.BasicForm.{the_row}

-- the form of a comparison
abbrev pub comparison_back : conditions.Comparison → Comparison
comparison_back conditions.Equals = comparisons.Equals
comparison_back conditions.Differs = comparisons.Differs
comparison_back conditions.IsLess = comparisons.IsLess
comparison_back conditions.IsNotLess = comparisons.IsNotLess
comparison_back conditions.IsGreater = comparisons.IsGreater
comparison_back conditions.IsNotGreater = comparisons.IsNotGreater

pub comparison_is_back : (c : conditions.Comparison) → comparison_in (comparison_back c) ≡ c
comparison_is_back conditions.Equals = refl
comparison_is_back conditions.Differs = refl
comparison_is_back conditions.IsLess = refl
comparison_is_back conditions.IsNotLess = refl
comparison_is_back conditions.IsGreater = refl
comparison_is_back conditions.IsNotGreater = refl

-- the form of a condition
abbrev pub condition_back : conditions.Condition → Condition
condition_back (conditions.Zero comparison) = tests.Zero (comparison_back comparison)
condition_back (conditions.Ints comparison) = tests.Ints (comparison_back comparison)
condition_back (conditions.Same wanted) = tests.Same wanted
condition_back (conditions.IsNull wanted) = tests.IsNull wanted

pub condition_is_back : (c : conditions.Condition) → condition_in (condition_back c) ≡ c
condition_is_back (conditions.Zero comparison) =
    ap (λ c. conditions.Zero c) (comparison_is_back comparison)
condition_is_back (conditions.Ints comparison) =
    ap (λ c. conditions.Ints c) (comparison_is_back comparison)
condition_is_back (conditions.Same wanted) = refl
condition_is_back (conditions.IsNull wanted) = refl

-- the form of what works on the stack
abbrev pub basic_back : machine.Basic → BasicForm
basic_back machine.Nop = basics.Nop
basic_back (machine.Push value) = basics.Push value
basic_back (machine.Drop places) = basics.Drop places
basic_back (machine.Copy places under) = basics.Copy places under
basic_back machine.Swap = basics.Swap
basic_back (machine.Act action) = basics.Act action
basic_back machine.Throw = basics.Throw

pub basic_is_back : (b : machine.Basic) → basic_in (basic_back b) ≡ b
basic_is_back machine.Nop = refl
basic_is_back (machine.Push value) = refl
basic_is_back (machine.Drop places) = refl
basic_is_back (machine.Copy places under) = refl
basic_is_back machine.Swap = refl
basic_is_back (machine.Act action) = refl
basic_is_back machine.Throw = refl

-- stored as its form
abbrev pub basic_code : Coded machine.Basic
basic_code = code_by BasicForm the_row.coded basic_back basic_in basic_is_back
