-- The method that a plan names, before and after its edit.
use Rattle.std.specs.Prelude.{◌≡◌, ℕ, Some, slice_get}
use Rattle.je_class.specs.declared.member.Member.{Member}
use Rattle.je_class.specs.Class.{Class}
use Rattle.je_machine.specs.Operation.{Program}
use Rattle.je_session.specs.declared.plan.MethodPlan.{MethodPlan}
use Rattle.je_session.specs.Kept.{IsPlanOf}
use Rattle.je_session.specs.ProgramOf.{ProgramOf}

-- It stands at one place of both classes, and has a program in each. What is said of an edit is
-- said of these.
pub record EditedMethod (before after : Class) (plan : MethodPlan) : Type 0 where
  pub at : ℕ
  pub is_planned : IsPlanOf before at plan
  pub old_method : Member
  pub in_before : slice_get before.methods at ≡ Some old_method
  pub old_program : Program
  pub of_old : ProgramOf before old_method old_program
  pub new_method : Member
  pub in_after : slice_get after.methods at ≡ Some new_method
  pub new_program : Program
  pub of_new : ProgramOf after new_method new_program
