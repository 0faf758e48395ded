-- The edit of one class: from its source to the bytes that are written.
use Rattle.std.specs.Prelude.{◌≡◌, ℕ, List, [], ◌∷◌, map, Option, IfSome}
use Rattle.je_base.specs.Files.{Contents}
use Rattle.je_class.specs.Class.{Class}
use Rattle.je_class.specs.ClassBytes.{ClassBytes}
use Rattle.je_session.specs.declared.plan.MethodPlan.{MethodPlan}
use Rattle.je_session.specs.declared.plan.Script.{Script}
use Rattle.je_session.specs.Agrees.{Agrees}
use Rattle.je_session.specs.Chosen.{matched}
use Rattle.je_session.specs.EditedMethod.{EditedMethod}
use Rattle.je_session.specs.Forms.{ReadsClass}
use Rattle.je_session.specs.KeepsLines.{KeepsLines}
use Rattle.je_session.specs.Kept.{Kept}

-- ---- one plan

-- a plan, the class before it and the class after it, and the number of expressions that its rules
-- chose
pub record PlanEdit : Type 0 where
  pub plan : MethodPlan
  pub before : Class
  pub after : Class
  pub matched : ℕ

abbrev pub plan_edit : MethodPlan → Class → Class → ℕ → PlanEdit
plan_edit plan before after matched =
    record { plan = plan; before = before; after = after; matched = matched }

-- What the edit of a plan owes, all of it said of the same two classes and the same two programs of
-- the planned method.
pub record IsPlanEdit (p : PlanEdit) : Type 0 where
  pub method : EditedMethod p.before p.after p.plan
  -- it does what the plan says of the method before it, and nothing else
  pub agrees : Agrees method.old_program p.plan method.new_program
  -- its instructions and its rows of lines and local variables are where they went
  pub lines : KeepsLines p.before p.after p.plan method
  -- all else of the class is as it was
  pub kept : Kept p.before (p.plan ∷ []) p.after
  pub count : p.matched ≡ matched method.old_program p.plan.rules
  -- what stands in the place of an expression takes no more stack and no more local variables so
  -- far
  pub max_stack : method.of_new.code.max_stack ≡ method.of_old.code.max_stack
  pub max_locals : method.of_new.code.max_locals ≡ method.of_old.code.max_locals

-- each plan edits the class that the one before it left
abbrev pub Leads : Class → List PlanEdit → Class → Type 0
Leads source [] edited = edited ≡ source
Leads source (p ∷ plans) edited = (p.before ≡ source) × IsPlanEdit p × Leads p.after plans edited

-- ---- one class

-- the class's name, what it was, what each plan did in order, what it is, and the bytes that are
-- written of it
pub record ClassEdit : Type 0 where
  pub name : List ℕ
  pub source : Class
  pub plans : List PlanEdit
  pub edited : Class
  pub bytes : List ℕ

abbrev pub plans_of : ClassEdit → List MethodPlan
plans_of e = map (λ p. p.plan) e.plans

-- The edit is of the class that a script plans, of what the files held of it, where they tell that.
-- All is said of the same source, plans, class and bytes.
pub record IsEditOf (files : Option Contents) (script : Script) (e : ClassEdit) : Type 0 where
  pub name : e.name ≡ script.class_name
  pub planned : plans_of e ≡ script.plan ∷ []
  pub source : IfSome files (λ before. ReadsClass before script e.source)
  pub leads : Leads e.source e.plans e.edited
  pub kept : Kept e.source (plans_of e) e.edited
  pub bytes : ClassBytes e.bytes e.edited
