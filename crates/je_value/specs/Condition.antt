-- The conditions of the definitions, and the forms that the program has of them.
use Rattle.je_machine.specs.Condition as machine
use Rattle.je_value.specs.declared.condition.Comparison.{Comparison}
use Rattle.je_value.specs.declared.condition.Comparison.TheVariants as comparisons
use Rattle.je_value.specs.declared.condition.Condition.{Condition}
use Rattle.je_value.specs.declared.condition.Condition.TheVariants as conditions

-- the comparison of a form
abbrev pub comparison_in : Comparison → machine.Comparison
comparison_in comparisons.Equals = machine.Equals
comparison_in comparisons.Differs = machine.Differs
comparison_in comparisons.IsLess = machine.IsLess
comparison_in comparisons.IsNotLess = machine.IsNotLess
comparison_in comparisons.IsGreater = machine.IsGreater
comparison_in comparisons.IsNotGreater = machine.IsNotGreater

-- the condition of a form
abbrev pub condition_in : Condition → machine.Condition
condition_in (conditions.Zero comparison) = machine.Zero (comparison_in comparison)
condition_in (conditions.Ints comparison) = machine.Ints (comparison_in comparison)
condition_in (conditions.Same wanted) = machine.Same wanted
condition_in (conditions.IsNull wanted) = machine.IsNull wanted
