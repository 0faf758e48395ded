-- A method with a loop and two handlers, and pieces that are put into it.
use Rattle.std.specs.Prelude.{ℕ, negsuc, List, [], ◌∷◌, None, Bool, true, false, codes}
use Rattle.je_consts.specs.declared.constant.MemberTag.TheVariants.{Method}
use Rattle.je_machine.specs.Value.{IntKind}
use Rattle.je_machine.specs.Content.{Member}
use Rattle.je_machine.specs.Condition.{Zero, Equals}
use Rattle.je_machine.specs.Action.{Action, Static, Invoke}
use Rattle.je_machine.specs.Operation.{Nop, Drop, Act, Do, Load, Increment, Branch, Goto}
use Rattle.je_machine.specs.Operation.{Return, Handler, Program}
use Rattle.je_machine.specs.Sample.{entry}
use Rattle.je_splice.specs.Block.{Block}
use Rattle.je_splice.specs.Laid.{Fragment}
use Rattle.je_splice.specs.Marks.{Marks}
use Rattle.je_splice.specs.Put.{PutAt, PutBefore, marks_of}
use Rattle.je_splice.specs.Sample.{empty_fragment, proceed_fragment}

-- a method `static void C.n()`
abbrev pub call : Action
call =
    Invoke Static (Member Method (codes "C") (codes "n") (codes "()V"))
    (record { params = []; result = None })

-- a call whose throws are dropped
abbrev pub guarded_call : Block
guarded_call = record {
  code = Do (Act call) ∷ Goto 3 ∷ Do (Drop 1) ∷ [];
  handlers = entry 0 1 2 ∷ [];
}

-- Calls twice, counts down, and goes on until zero. What the calls throw goes to index 7, what the
-- test of the loop throws to index 4.
abbrev pub loop_method : Program
loop_method = record {
  parameters = IntKind ∷ [];
  operations = Load IntKind 0 ∷ Branch (Zero Equals) 6 ∷ Do (Act call) ∷ Do (Act call)
      ∷ Increment 0 (negsuc 0) ∷ Goto 0 ∷ Return None ∷ Do (Drop 1) ∷ Return None ∷ [];
  handlers = entry 2 5 7 ∷ entry 0 2 4 ∷ [];
}

abbrev pub put_at : {X : Type 0} → ℕ → Bool → Bool → X → PutAt X
put_at at removed jumps piece =
    record { at = at; removed = removed; jumps = jumps; piece = piece }

-- one in the way of all entries that lead to the target
abbrev pub put_before : {X H : Type 0} → ℕ → X → PutBefore X H
put_before target piece = record { target = target; meets = λ h. true; piece = piece }

-- A nop stands before the loop, which each turn meets. The first call stays a call, and the second
-- gives way to nothing. A nop stands before index 4, and jumps pass it by; the handlers that lead
-- there meet a drop.
abbrev pub loop_places : List (PutAt Fragment)
loop_places =
    put_at 0 false true (proceed_fragment Nop) ∷ put_at 2 true true (proceed_fragment (Act call))
    ∷ put_at 3 true true empty_fragment ∷ put_at 4 false false (proceed_fragment Nop) ∷ []

abbrev pub loop_entries : List (PutBefore Fragment Handler)
loop_entries = put_before 4 (proceed_fragment (Drop 1)) ∷ []

abbrev pub loop_marks : Marks Fragment Handler
loop_marks = marks_of (λ h. h.target) (λ fragment. true) loop_places loop_entries

-- with its pieces in place
abbrev pub spliced_loop : Program
spliced_loop = record {
  parameters = IntKind ∷ [];
  operations = Do Nop ∷ Load IntKind 0 ∷ Branch (Zero Equals) 10 ∷ Do (Act call) ∷ Goto 7
      ∷ Do (Drop 1) ∷ Goto 8 ∷ Do Nop ∷ Increment 0 (negsuc 0) ∷ Goto 0 ∷ Return None
      ∷ Do (Drop 1) ∷ Return None ∷ [];
  handlers = entry 3 9 11 ∷ entry 0 3 5 ∷ [];
}
