-- The inverse of a condition.
use Rattle.std.proofs.Common.{◌≡◌, List, Bool, true, false, refl, sym, ap}
use Rattle.std.specs.Prelude.{not, ℤ, int_lt}
use Rattle.std.specs.Ordering.{int_eq}
use Rattle.je_machine.specs.Value.{Value}
use Rattle.je_machine.specs.Condition.{Comparison, Equals, Differs, IsLess, IsNotLess, IsGreater, IsNotGreater, Condition, Zero, Ints, Same, IsNull, is_so, is_wanted, is_met, opposite, inverse}

twice : (b : Bool) → b ≡ not (not b)
twice true = refl
twice false = refl

opposite_is : (c : Comparison) (x y : ℤ) → is_so (opposite c) x y ≡ not (is_so c x y)
opposite_is Equals x y = refl
opposite_is Differs x y = twice (int_eq x y)
opposite_is IsLess x y = refl
opposite_is IsNotLess x y = twice (int_lt x y)
opposite_is IsGreater x y = refl
opposite_is IsNotGreater x y = twice (int_lt y x)

wanted_is : (w b : Bool) → is_wanted (not w) b ≡ not (is_wanted w b)
wanted_is true b = refl
wanted_is false b = twice b

pub inverse_met : (c : Condition) (operands : List Value) → is_met (inverse c) operands ≡ not (is_met c operands)
inverse_met (Zero c) operands = opposite_is c _ _
inverse_met (Ints c) operands = opposite_is c _ _
inverse_met (Same w) operands = wanted_is w _
inverse_met (IsNull w) operands = wanted_is w _

opposite_twice : (c : Comparison) → opposite (opposite c) ≡ c
opposite_twice Equals = refl
opposite_twice Differs = refl
opposite_twice IsLess = refl
opposite_twice IsNotLess = refl
opposite_twice IsGreater = refl
opposite_twice IsNotGreater = refl

pub inverse_twice : (c : Condition) → inverse (inverse c) ≡ c
inverse_twice (Zero c) = ap Zero (opposite_twice c)
inverse_twice (Ints c) = ap Ints (opposite_twice c)
inverse_twice (Same w) = ap Same (sym (twice w))
inverse_twice (IsNull w) = ap IsNull (sym (twice w))
