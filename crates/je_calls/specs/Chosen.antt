-- Which calls of a method the rules choose.
use Rattle.std.specs.Prelude.{◌≡◌, ℕ, suc, List, [], ◌∷◌, Option, Some, None, option_map}
use Rattle.std.specs.Prelude.{option_and_then, slice_get, count_by, Bool, true, false, ◌&&◌}
use Rattle.std.specs.Prelude.{IfSome}
use Rattle.std.specs.List.{find}
use Rattle.je_base.specs.Text.{is_same_text}
use Rattle.je_machine.specs.Content.{Content, Member}
use Rattle.je_machine.specs.Action.{Invoke, operands_of, result_of}
use Rattle.je_machine.specs.Operation.{Act, Operation, Do, Program}
use Rattle.je_shape.specs.Shape.{Known, Nothing}
use Rattle.je_shape.specs.Least.{Assignment}
use Rattle.je_calls.specs.declared.rule.Choice.{Choice}
use Rattle.je_calls.specs.declared.rule.Choice.TheVariants.{Stays, Drops, Gives}
use Rattle.je_calls.specs.declared.rule.Fragment.{Fragment}
use Rattle.je_calls.specs.declared.rule.Rule.{Rule}

-- the class and the name of the method that a constant names
abbrev pub named_method : Content → Option (List ℕ × List ℕ)
named_method (Member tag class name descriptor) = Some (class, name)
named_method _ = None

-- those of the method that an instruction calls, of any sort
abbrev pub called_method : Operation → Option (List ℕ × List ℕ)
called_method (Do (Act (Invoke sort method types))) = named_method method
called_method _ = None

-- the rule is for calls of this method in this class
abbrev pub fits : List ℕ × List ℕ → Rule → Bool
fits called rule = is_same_text rule.class_name called.0 && is_same_text rule.member called.1

-- the fragment of the first rule that fits the instruction
abbrev pub chosen_fragment : List Rule → Operation → Option Fragment
chosen_fragment rules operation =
    option_and_then
    (λ called. option_map (λ (rule : Rule). rule.fragment) (find (fits called) rules))
    (called_method operation)

-- something comes to the index of which this is known
abbrev pub is_reached : Known → Bool
is_reached Nothing = false
is_reached _ = true

-- An instruction to which nothing comes is left out. Where a rule fits another one, it gives way.
abbrev pub chosen_as : Option Fragment → Choice
chosen_as None = Stays
chosen_as (Some fragment) = Gives fragment

abbrev pub choice_if : Bool → List Rule → Operation → Choice
choice_if false rules operation = Drops
choice_if true rules operation = chosen_as (chosen_fragment rules operation)

abbrev pub choice_of : List Rule → Known → Operation → Choice
choice_of rules known operation = choice_if (is_reached known) rules operation

-- of instructions from an index on
abbrev pub choices_from : List Rule → Assignment → ℕ → List Operation → List Choice
choices_from rules x at [] = []
choices_from rules x at (operation ∷ operations) =
    choice_of rules (x at) operation ∷ choices_from rules x (suc at) operations

-- the fragment that is meant in the place of the instruction
abbrev pub given : Choice → Option Fragment
given (Gives fragment) = Some fragment
given _ = None

-- that of the instruction at an index, if a rule chooses it
abbrev pub chosen_at : Program → Assignment → List Rule → ℕ → Option Fragment
chosen_at program x rules at =
    option_and_then (λ operation. given (choice_of rules (x at) operation))
    (slice_get program.operations at)

abbrev pub is_given : Choice → Bool
is_given (Gives fragment) = true
is_given _ = false

-- how many calls the rules choose
abbrev pub matched : Program → Assignment → List Rule → ℕ
matched program x rules = count_by is_given (choices_from rules x 0 program.operations)

-- an action that takes nothing from the stack and leaves nothing there
abbrev pub IsPlain : Operation → Type 0
IsPlain (Do (Act action)) = (operands_of action ≡ []) × (result_of action ≡ None)
IsPlain _ = ⊥

-- it is such an action, where a rule fits it
abbrev pub IsReplaceable : List Rule → Operation → Type 0
IsReplaceable rules operation =
    IfSome (chosen_fragment rules operation) (λ fragment. IsPlain operation)
