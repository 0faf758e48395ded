-- Instructions with all that they name in place: constants are their contents, and jumps go to
-- indexes of instructions (JVMS 6.5).
use Rattle.std.specs.Prelude.{ℕ, ℤ, List, Option}
use Rattle.je_machine.specs.Value.{Kind, Value}
use Rattle.je_machine.specs.Condition.{Condition}
use Rattle.je_machine.specs.Action.{Action}

-- what works on the stack and the outside alone
pub data Basic : Type 0 where
  -- nop
  Nop : Basic
  -- aconst_null to ldc2_w
  Push : (value : Value) → Basic
  -- pop (one place), pop2 (two)
  Drop : (places : ℕ) → Basic
  -- The top so many places once more, under the next so many: dup (1, 0), dup_x1 (1, 1),
  -- dup_x2 (1, 2), dup2 (2, 0), dup2_x1 (2, 1), dup2_x2 (2, 2).
  Copy : (places under : ℕ) → Basic
  -- swap
  Swap : Basic
  -- an action on the operands on the stack
  Act : (action : Action) → Basic
  -- athrow
  Throw : Basic

pub data Operation : Type 0 where
  Do : (basic : Basic) → Operation
  -- iload to aload; istore to astore; iinc
  Load : (kind : Kind) (slot : ℕ) → Operation
  Store : (kind : Kind) (slot : ℕ) → Operation
  Increment : (slot : ℕ) (by : ℤ) → Operation
  -- ifeq to if_acmpne, ifnull, ifnonnull; goto, goto_w; tableswitch, lookupswitch
  Branch : (condition : Condition) (target : ℕ) → Operation
  Goto : (target : ℕ) → Operation
  Switch : (cases : List (ℤ × ℕ)) (fallback : ℕ) → Operation
  -- return, and ireturn to areturn
  Return : (kind : Option Kind) → Operation

-- an entry of the exception table (JVMS 4.7.3): instructions from start up to, not including, end,
-- the first instruction of the handler, and the class that it catches, or none where it catches all
pub record Handler : Type 0 where
  pub start : ℕ
  pub end : ℕ
  pub target : ℕ
  pub catch_class : Option (List ℕ)

-- what a method does: the kinds of its parameters, of which `this` is the first where there is one,
-- its instructions and its handlers
pub record Program : Type 0 where
  pub parameters : List Kind
  pub operations : List Operation
  pub handlers : List Handler
