-- Which expressions of a method a plan's rules choose.
use Rattle.std.specs.Prelude.{ℕ, List, Option, option_and_then, slice_get, Bool, false, ◌&&◌}
use Rattle.std.specs.Prelude.{count_by, is_some}
use Rattle.std.specs.Option.{option_map}
use Rattle.std.specs.List.{find}
use Rattle.je_base.specs.Text.{is_same_text}
use Rattle.je_machine.specs.Content.{Member}
use Rattle.je_machine.specs.Action.{Invoke}
use Rattle.je_machine.specs.Operation.{Act, Operation, Do, Program}
use Rattle.je_session.specs.declared.plan.Fragment.{Fragment}
use Rattle.je_session.specs.declared.plan.Rule.{Rule}

-- a rule for calls fits a call, of any sort, of its method in its class
abbrev pub fits : Operation → Rule → Bool
fits (Do (Act (Invoke sort (Member tag class name descriptor) types))) rule =
    is_same_text rule.class_name class && is_same_text rule.member name
fits _ rule = false

-- the first rule that fits
abbrev pub chosen_rule : List Rule → Operation → Option Rule
chosen_rule rules operation = find (fits operation) rules

-- the fragment that takes the place of the instruction at an index, if a rule chooses it
abbrev pub chosen_at : Program → List Rule → ℕ → Option Fragment
chosen_at program rules at =
    option_and_then (λ operation. option_map (λ rule. rule.fragment) (chosen_rule rules operation))
    (slice_get program.operations at)

-- How many expressions the rules choose. Each instruction counts, which is right while the one
-- return of a method is its last instruction: then each can be reached.
abbrev pub matched : Program → List Rule → ℕ
matched program rules =
    count_by (λ operation. is_some (chosen_rule rules operation)) program.operations
