-- What a method of four instructions shows.
use Rattle.std.proofs.Common.{◌≡◌, ℕ, List, [], ◌∷◌, Some, None, refl, sym, ap, subst, ◌∙◌}
use Rattle.std.specs.List.{AllZip}
use Rattle.je_consts.specs.declared.place.Place.{Place}
use Rattle.je_consts.specs.declared.constant.MemberTag.TheVariants.{Method}
use Rattle.je_machine.specs.Content.{Content, Member}
use Rattle.je_machine.specs.Heap.{Heap}
use Rattle.je_machine.specs.Operation.{Operation, Nop, Act, Do, Return, Handler, Program}
use Rattle.je_machine.specs.Sample.{value_answer, throw_answer}
use Rattle.je_machine.specs.Step.{Returned, Thrown}
use Rattle.je_machine.specs.Value.{Kind, Value, Obj}
use Rattle.je_instr.specs.Resolves.{Resolves}
use Rattle.je_instr.specs.Sample.{CallsPlain, IsTwoCalls, Shows, two_calls, plain_call, call_event}
use Rattle.je_instr.proofs.OpcodeLemmas.{nop_means, return_means, callee_means}
use Rattle.je_instr.proofs.OperationLemmas.{all_resolve_once}
use Rattle.je_instr.proofs.ProgramLemmas.{program_made}

abbrev calls : Content → Content → List Operation
calls first second = Do (Act (plain_call first)) ∷ Do Nop ∷ Do (Act (plain_call second)) ∷ Return None ∷ []

module _ (consts : List Place) (i j : ℕ) (class name text other_class other_name other_text : List ℕ) (p : Program) (one : CallsPlain consts i class name text) (two : CallsPlain consts j other_class other_name other_text) (is : IsTwoCalls consts i j p) where
  abbrev first : Content
  first = Member Method class name text

  abbrev second : Content
  second = Member Method other_class other_name other_text

  resolved : AllZip (Resolves consts) (two_calls i j) (calls first second)
  resolved = (
    (callee_means consts i class name text one.here one.callable (Do (Act (plain_call first)))).1 refl,
    (
      (nop_means consts (Do Nop)).1 refl,
      (
        (callee_means consts j other_class other_name other_text two.here two.callable (Do (Act (plain_call second)))).1 refl,
        ((return_means consts (Return None)).1 refl, tt),
      ),
    ),
  )

  program_is : program_made [] (calls first second) [] ≡ p
  program_is =
      let operations = all_resolve_once consts (two_calls i j) (calls first second) p.operations resolved is.operations in
      ap (λ (x : List Kind). program_made x (calls first second) []) (sym is.parameters)
      ∙ ap (λ (x : List Operation). program_made p.parameters x []) operations
      ∙ ap (λ (x : List Handler). program_made p.parameters p.operations x) (sym is.handlers)

  pub returned : (heap middle last : Heap) (u v : Value) → Shows p heap (value_answer u middle ∷ value_answer v last ∷ []) (call_event first heap ∷ call_event second middle ∷ []) (Some (Returned None, last))
  returned heap middle last u v =
      subst (λ (q : Program). Shows q heap (value_answer u middle ∷ value_answer v last ∷ []) (call_event first heap ∷ call_event second middle ∷ []) (Some (Returned None, last))) program_is (λ classes. refl)

  pub thrown : (heap middle last : Heap) (u : Value) (number : ℕ) → Shows p heap (throw_answer (Obj number) middle ∷ value_answer u last ∷ []) (call_event first heap ∷ []) (Some (Thrown (Obj number), middle))
  thrown heap middle last u number =
      subst (λ (q : Program). Shows q heap (throw_answer (Obj number) middle ∷ value_answer u last ∷ []) (call_event first heap ∷ []) (Some (Thrown (Obj number), middle))) program_is (λ classes. refl)

  pub waits : (heap middle : Heap) (u : Value) → Shows p heap (value_answer u middle ∷ []) (call_event first heap ∷ call_event second middle ∷ []) None
  waits heap middle u =
      subst (λ (q : Program). Shows q heap (value_answer u middle ∷ []) (call_event first heap ∷ call_event second middle ∷ []) None) program_is (λ classes. refl)
