-- Serves private functions: what becomes of the instructions of a method, by whether there is a
-- shape for each.
use Rattle.std.specs.Prelude.{◌≡◌, List, [], ◌∷◌, Option, is_some, IsTrue}
use Rattle.je_machine.specs.Operation.{Operation, Program}
use Rattle.je_shape.specs.Least.{Assignment}
use Rattle.je_keep.specs.MethodCode.{AreFaultless}
use Rattle.je_calls.specs.declared.rule.Choice.{Choice}
use Rattle.je_calls.specs.declared.rule.Rule.{Rule}
use Rattle.je_calls.specs.Chosen.{choice_if, choices_from, IsReplaceable}
use Rattle.je_calls.specs.Method.{Task, method_with, ArePlain}

-- by whether there is a shape for each
abbrev pub choices_by : {A : Type 0} → List Rule → List (Option A) → List Operation → List Choice
choices_by rules [] operations = []
choices_by rules (known ∷ list) [] = []
choices_by rules (known ∷ list) (operation ∷ operations) =
    choice_if (is_some known) rules operation ∷ choices_by rules list operations

-- each for which there is one can give way, where a rule fits it
abbrev pub AreReplaceable : {A : Type 0} → List Rule → List (Option A) → List Operation → Type 0
AreReplaceable rules [] operations = Unit {0}
AreReplaceable rules (known ∷ list) [] = Unit {0}
AreReplaceable rules (known ∷ list) (operation ∷ operations) =
    (IsTrue (is_some known) → IsReplaceable rules operation)
    × AreReplaceable rules list operations

-- they are those of the method's least shapes
pub record AreChosen (t : Task) (program : Program) (choices : List Choice) : Type 0 where
  pub x : Assignment
  pub faultless : AreFaultless (method_with t program) x
  pub plain : ArePlain t.rules x program
  pub choices_are : choices ≡ choices_from t.rules x 0 program.operations
