-- What the rules choose is a call, and what becomes of each instruction has its cause.
use Rattle.std.proofs.Common.{◌≡◌, List, [], ◌∷◌, length, Option, Some, None, Bool, true, false, ◌&&◌, option_map, refl, sym, ap, subst, ◌∙◌}
use Rattle.std.specs.Prelude.{IsTrue, IfSome, pos}
use Rattle.je_desc.specs.Descriptor.{MethodTypes}
use Rattle.je_machine.specs.Content.{Content}
use Rattle.je_machine.specs.Value.{Kind, Value, Int, value_at, is_null, kind_of}
use Rattle.je_machine.specs.Heap.{Heap}
use Rattle.je_machine.specs.Classes.{Classes}
use Rattle.je_machine.specs.Action.{Action, Invoke, Sort, operands_of, result_of, has_receiver}
use Rattle.je_machine.specs.Acting.{act}
use Rattle.je_machine.specs.Acts.{GivesKind, are_of_kinds, after_call}
use Rattle.je_machine.specs.Outside.{Outside, Answer, Gave, Response}
use Rattle.je_machine.specs.Operation.{Act, Operation, Do}
use Rattle.je_machine.specs.Frame.{Frame, Falls, flow_of, stacked, perform, popped, under}
use Rattle.je_machine.specs.Sample.{value_answer}
use Rattle.je_shape.specs.Shape.{Known, Nothing, Has, Broken}
use Rattle.je_calls.specs.declared.rule.Choice.{Choice}
use Rattle.je_calls.specs.declared.rule.Choice.TheVariants.{Stays, Drops, Gives}
use Rattle.je_calls.specs.declared.rule.Fragment.{Fragment}
use Rattle.je_calls.specs.declared.rule.Rule.{Rule}
use Rattle.je_calls.specs.Chosen.{chosen_fragment, is_reached, chosen_as, choice_of, IsPlain, IsReplaceable}

-- what actions do
pub record Laws : Type 0 where
  pub gives : (classes : Classes) (action : Action) (operands : List Value) (outside : Outside) → GivesKind (result_of action) (act classes action operands outside)
  pub nothing : (classes : Classes) (sort : Sort) (method : Content) (types : MethodTypes) (operands : List Value) (before : Outside) (value : Value) (heap : Heap) (answers : List Answer)
      → IsTrue (are_of_kinds (operands_of (Invoke sort method types)) operands) → (has_receiver sort && is_null (value_at operands 0)) ≡ false → before.answers ≡ value_answer value heap ∷ answers
      → types.result ≡ None → act classes (Invoke sort method types) operands before ≡ Gave None (after_call (Invoke sort method types) operands before heap answers)

-- a call that takes nothing from the stack and leaves nothing there
pub record IsPlainCall (o : Operation) : Type 0 where
  pub sort : Sort
  pub method : Content
  pub types : MethodTypes
  pub is : o ≡ Do (Act (Invoke sort method types))
  pub operands : operands_of (Invoke sort method types) ≡ []
  pub result : types.result ≡ None

none_mapped : {A B : Type 0} (f : A → B) (o : Option A) → option_map f o ≡ None → o ≡ None
none_mapped f None e = refl
none_mapped f (Some a) e = absurd cc

plain_call : (rules : List Rule) (o : Operation) (fragment : Fragment) → chosen_fragment rules o ≡ Some fragment → IsPlain o → IsPlainCall o
plain_call rules (Do (Act (Invoke sort method types))) fragment e p =
    record { sort = sort; method = method; types = types; is = refl; operands = p.0; result = none_mapped kind_of types.result p.1 }
plain_call rules _ fragment e p = absurd cc

-- why this becomes of an instruction of which this is known
abbrev pub HasCause : Operation → Known → Choice → Type 0
HasCause o known Stays = Unit {0}
HasCause o known Drops = known ≡ Nothing
HasCause o known (Gives fragment) = IsPlainCall o

cause_as : (rules : List Rule) (o : Operation) (known : Known) (f : Option Fragment) → chosen_fragment rules o ≡ f → IfSome f (λ fragment. IsPlain o) → HasCause o known (chosen_as f)
cause_as rules o known None e h = tt
cause_as rules o known (Some fragment) e h = plain_call rules o fragment e h

pub cause : (rules : List Rule) (o : Operation) (known : Known) → (IsTrue (is_reached known) → IsReplaceable rules o) → HasCause o known (choice_of rules known o)
cause rules o Nothing h = refl
cause rules o (Has s) h = cause_as rules o (Has s) (chosen_fragment rules o) refl (h refl)
cause rules o Broken h = cause_as rules o Broken (chosen_fragment rules o) refl (h refl)

-- ---- a call that is answered by a value leads on as it was

no_target : (b : Bool) → (b && false) ≡ false
no_target true = refl
no_target false = refl

-- some outside that answers by a value
abbrev pub answering : Heap → Outside
answering heap = record { heap = heap; events = []; answers = value_answer (Int (pos 0)) heap ∷ [] }

pub performed_by : (classes : Classes) (action : Action) (frame : Frame) (outside : Outside) → operands_of action ≡ []
    → perform classes (Do (Act action)) frame outside ≡ flow_of frame.locals (stacked frame.stack (act classes action [] outside))
performed_by classes action frame outside none =
    ap (λ (ks : List Kind). flow_of frame.locals (stacked (under (length ks) frame.stack) (act classes action (popped (length ks) frame.stack) outside))) none

pub call_falls : Laws → (classes : Classes) (sort : Sort) (method : Content) (types : MethodTypes) (frame : Frame) (heap : Heap) → operands_of (Invoke sort method types) ≡ [] → types.result ≡ None
    → (after : Outside) × (perform classes (Do (Act (Invoke sort method types))) frame (answering heap) ≡ Falls frame after)
call_falls laws classes sort method types frame heap operands result =
    let right : IsTrue (are_of_kinds (operands_of (Invoke sort method types)) []) = subst (λ (ks : List Kind). IsTrue (are_of_kinds ks [])) (sym operands) refl in
    let given = laws.nothing classes sort method types [] (answering heap) (Int (pos 0)) heap [] right (no_target (has_receiver sort)) refl result in (
      after_call (Invoke sort method types) [] (answering heap) heap [],
      performed_by classes (Invoke sort method types) frame (answering heap) operands ∙ ap (λ (r : Response). flow_of frame.locals (stacked frame.stack r)) given,
    )
