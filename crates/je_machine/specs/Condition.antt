-- The conditions of jumps (JVMS 6.5, ifeq to if_acmpne, ifnull and ifnonnull).
use Rattle.std.specs.Prelude.{ℤ, pos, List, [], ◌∷◌, Bool, true, false, not, int_lt}
use Rattle.std.specs.Ordering.{int_eq}
use Rattle.je_machine.specs.Value.{Kind, IntKind, ReferenceKind, Value, number_of, value_at}
use Rattle.je_machine.specs.Value.{is_null, is_same_reference}

pub data Comparison : Type 0 where
  Equals : Comparison
  Differs : Comparison
  IsLess : Comparison
  IsNotLess : Comparison
  IsGreater : Comparison
  IsNotGreater : Comparison

pub data Condition : Type 0 where
  -- an int compared with 0: ifeq to ifle
  Zero : (comparison : Comparison) → Condition
  -- two ints: if_icmpeq to if_icmple
  Ints : (comparison : Comparison) → Condition
  -- two references are the same, or are not: if_acmpeq, if_acmpne
  Same : (wanted : Bool) → Condition
  -- a reference is null, or is not: ifnull, ifnonnull
  IsNull : (wanted : Bool) → Condition

-- the kinds of the operands, the deepest first
abbrev pub condition_operands : Condition → List Kind
condition_operands (Zero comparison) = IntKind ∷ []
condition_operands (Ints comparison) = IntKind ∷ IntKind ∷ []
condition_operands (Same wanted) = ReferenceKind ∷ ReferenceKind ∷ []
condition_operands (IsNull wanted) = ReferenceKind ∷ []

abbrev pub is_so : Comparison → ℤ → ℤ → Bool
is_so Equals x y = int_eq x y
is_so Differs x y = not (int_eq x y)
is_so IsLess x y = int_lt x y
is_so IsNotLess x y = not (int_lt x y)
is_so IsGreater x y = int_lt y x
is_so IsNotGreater x y = not (int_lt y x)

abbrev pub is_wanted : Bool → Bool → Bool
is_wanted true holds = holds
is_wanted false holds = not holds

abbrev pub is_met : Condition → List Value → Bool
is_met (Zero comparison) operands = is_so comparison (number_of (value_at operands 0)) (pos 0)
is_met (Ints comparison) operands =
    is_so comparison (number_of (value_at operands 0)) (number_of (value_at operands 1))
is_met (Same wanted) operands =
    is_wanted wanted (is_same_reference (value_at operands 0) (value_at operands 1))
is_met (IsNull wanted) operands = is_wanted wanted (is_null (value_at operands 0))

-- ---- the condition that is met exactly where the other is not

abbrev pub opposite : Comparison → Comparison
opposite Equals = Differs
opposite Differs = Equals
opposite IsLess = IsNotLess
opposite IsNotLess = IsLess
opposite IsGreater = IsNotGreater
opposite IsNotGreater = IsGreater

abbrev pub inverse : Condition → Condition
inverse (Zero comparison) = Zero (opposite comparison)
inverse (Ints comparison) = Ints (opposite comparison)
inverse (Same wanted) = Same (not wanted)
inverse (IsNull wanted) = IsNull (not wanted)
