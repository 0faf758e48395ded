-- Where the instructions of an edited method went, and its tables of lines and local variables
-- (JVMS 4.7.12 to 4.7.14).
use Rattle.std.specs.Prelude.{◌≡◌, ◌≢◌, ℕ, ◌+◌, ◌<◌, ◌≤◌, List, Some, None, slice_get, length}
use Rattle.std.specs.List.{AllZip}
use Rattle.je_class.specs.Class.{Class}
use Rattle.je_machine.specs.Operation.{Operation, Program}
use Rattle.je_machine.specs.Moved.{retargeted}
use Rattle.je_code.specs.declared.attr.CodeAttr.{CodeAttr}
use Rattle.je_code.specs.CodeAttr.{IsCodeAttr}
use Rattle.je_code.specs.Moved.{moved}
use Rattle.je_code.specs.Named.{IsNamed, tables_of}
use Rattle.je_session.specs.declared.plan.MethodPlan.{MethodPlan}
use Rattle.je_session.specs.declared.plan.Rule.{Rule}
use Rattle.je_session.specs.Chosen.{chosen_at, matched}
use Rattle.je_session.specs.EditedMethod.{EditedMethod}

-- An operation stands at its new index, with its targets where they went, and is all that stands
-- for the old one.
pub record Stays (new : Program) (to upto : ℕ → ℕ) (i : ℕ) (operation : Operation) : Type 0 where
  pub here : slice_get new.operations (to i) ≡ Some (retargeted to operation)
  pub alone : upto i ≡ to i + 1

-- The map from the indexes of the old program, and of its end, to those of the new one. What stands
-- for an old instruction is the piece from its new index up to, not including, `upto`: itself where
-- it is kept, and its block where it is chosen. The pieces stand in the order of the old
-- instructions; before, between and behind them other code may stand. All instructions can be
-- reached so far, so none is dropped.
pub record IsIndexMap (old : Program) (rules : List Rule) (new : Program)
    (to upto : ℕ → ℕ) : Type 0 where
  pub rises : (i j : ℕ) → i ≤ j → to i ≤ to j
  pub piece : (i : ℕ) → i < length old.operations → (to i ≤ upto i) × (upto i ≤ to (i + 1))
  pub within : to (length old.operations) ≤ length new.operations
  pub stays : (i : ℕ) (operation : Operation) → slice_get old.operations i ≡ Some operation
      → chosen_at old rules i ≡ None
      → Stays new to upto i operation

-- The pieces are all of the new program: nothing stands before, between and behind them. That is so
-- while a plan has rules alone.
pub record IsAllPieces (old new : Program) (to upto : ℕ → ℕ) : Type 0 where
  pub before : to 0 ≡ 0
  pub between : (i : ℕ) → i < length old.operations → upto i ≡ to (i + 1)
  pub behind : to (length old.operations) ≡ length new.operations

-- The method has its instructions by such a map. Where something is chosen, the attributes of its
-- Code are the old one's tables of lines and local variables under the map, at the offsets of the
-- new instructions, and nothing else. Where nothing is, the method is as it was.
pub record KeepsLines (before after : Class) (plan : MethodPlan)
    (method : EditedMethod before after plan) : Type 0 where
  pub to : ℕ → ℕ
  pub upto : ℕ → ℕ
  pub is_map : IsIndexMap method.old_program plan.rules method.new_program to upto
  pub all_pieces : IsAllPieces method.old_program method.new_program to upto
  pub old_code : CodeAttr
  pub of_before : IsCodeAttr before.consts method.of_old.attribute.bytes old_code
  pub of_after : matched method.old_program plan.rules ≢ 0
      → AllZip (IsNamed after.consts) (tables_of method.of_new.of_code.decoded.offsets
      (moved to (length method.new_program.operations) old_code)) method.of_new.code.attributes
  pub unchosen : matched method.old_program plan.rules ≡ 0 → method.new_method ≡ method.old_method
