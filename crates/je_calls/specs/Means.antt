-- What a fragment does, read as source (JLS 14 and 15).
use Rattle.std.specs.Prelude.{ℕ, List}
use Rattle.je_machine.specs.Value.{Value}
use Rattle.je_machine.specs.Classes.{Classes}
use Rattle.je_machine.specs.Action.{Action}
use Rattle.je_machine.specs.Outside.{Outside, Response, Gave, Threw, Waits}
use Rattle.je_machine.specs.Acting.{act}
use Rattle.je_calls.specs.declared.rule.Fragment.{Fragment}
use Rattle.je_calls.specs.declared.rule.Fragment.TheVariants.{Empty, Proceed}

-- where a fragment stands: what is known of classes, the action that it takes the place of, and the
-- operands that this took, the deepest first
pub record Scene : Type 0 where
  pub classes : Classes
  pub original : Action
  pub operands : List Value

-- A fragment completes normally, completes by a throw, or does not complete: the bound is used up,
-- or no answer comes. The bound that is left and the outside are as they are then.
pub data Meaning : Type 0 where
  Completes : (left : ℕ) (outside : Outside) → Meaning
  Raises : (reference : Value) (left : ℕ) (outside : Outside) → Meaning
  Stays : (left : ℕ) (outside : Outside) → Meaning

-- an expression that is a statement completes normally by any value, which is dropped (JLS 14.8)
abbrev pub after_action : ℕ → Response → Meaning
after_action bound (Gave value outside) = Completes bound outside
after_action bound (Threw reference outside) = Raises reference bound outside
after_action bound (Waits outside) = Stays bound outside

-- A block of no statements does nothing (JLS 14.2). `$proceed($$);` does the original action on the
-- operands that this took.
abbrev pub means : Fragment → Scene → ℕ → Outside → Meaning
means Empty scene bound outside = Completes bound outside
means Proceed scene bound outside =
    after_action bound (act scene.classes scene.original scene.operands outside)
