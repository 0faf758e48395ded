-- Shapes do not depend on the parameters of a program, which say what its values are and not where they go.
use Rattle.std.proofs.Common.{◌≡◌, ℕ, List, Option, Result, Ok, Err, inl, inr, subst}
use Rattle.std.specs.Prelude.{IfOk}
use Rattle.je_consts.specs.declared.place.Place.{Place}
use Rattle.je_instr.specs.declared.program.Program as code
use Rattle.je_instr.specs.CodeProgram.{IsHandlerOf}
use Rattle.je_shapes.proofs.CatchLemmas.{one_handler}
use Rattle.je_instr.proofs.OperationLemmas.{all_resolve_once}
use Rattle.je_instr.proofs.ZipLemmas.{zip_once}
use Rattle.je_machine.specs.Operation.{Operation, Handler, Program}
use Rattle.je_machine.specs.Value.{Kind}
use Rattle.je_shape.specs.Shape.{Shape, Known, Nothing, Has, Broken}
use Rattle.je_shape.specs.Least.{Method, Assignment, Sends, Serves, Passes, IsClosed, IsLeast, IsFaultOf, IsFault}
use Rattle.je_shape.specs.Views.{shapes_seen}
use Rattle.je_shape.specs.declared.slot.Shape as program
use Rattle.je_least.specs.Answer.{method_of, IsShapes, IsBadCode}
use Rattle.je_least.specs.declared.answer.Shapes.{Shapes}
use Rattle.je_least.specs.declared.answer.ShapeFault.{ShapeFault}
use Rattle.je_shapes.specs.Code.{HasCode}

module _ (class : List ℕ) (entry : Shape) (frames : List (ℕ × Shape)) (result : Option (Option Kind)) (operations : List Operation) (handlers : List Handler) where
  -- the method, whatever its parameters are
  abbrev with : List Kind → Method
  with parameters = record {
    class = class;
    program = record { parameters = parameters; operations = operations; handlers = handlers };
    entry = entry;
    frames = frames;
    result = result;
  }

  sends : (a b : List Kind) (x : Assignment) (at : ℕ) (o : Operation) (left : Known) (thrown : Handler → Known) → Sends (with a) x at o left thrown → Sends (with b) x at o left thrown
  sends a b x at o left thrown h = record { successors = h.successors; handlers = h.handlers }

  serves : (a b : List Kind) (at : ℕ) (o : Operation) (s : Shape) → Serves (with a) at o s → Serves (with b) at o s
  serves a b at o s h = record { shape = h.shape; returns = h.returns; inside = h.inside }

  passes : (a b : List Kind) (x : Assignment) (at : ℕ) (o : Operation) (known : Known) → Passes (with a) x at o known → Passes (with b) x at o known
  passes a b x at o Nothing h = tt
  passes a b x at o (Has s) (inl h) = inl (serves a b at o s h.0, sends a b x at o _ _ h.1)
  passes a b x at o (Has s) (inr h) = inr (sends a b x at o _ _ h)
  passes a b x at o Broken h = sends a b x at o _ _ h

  closed : (a b : List Kind) (x : Assignment) → IsClosed (with a) x → IsClosed (with b) x
  closed a b x h = record {
    starts = h.starts;
    passes = λ at o there. passes a b x at o (x at) (h.passes at o there);
  }

  least : (a b : List Kind) (x : Assignment) → IsLeast (with a) x → IsLeast (with b) x
  least a b x h = record {
    closed = closed a b x h.closed;
    least = λ y k at. h.least y (closed b a y k) at;
  }

  fault_of : (a b : List Kind) (at : ℕ) (o : Operation) (known : Known) → IsFaultOf (with a) at o known → IsFaultOf (with b) at o known
  fault_of a b at o Nothing h = absurd h
  fault_of a b at o (Has s) h = λ k. h (serves b a at o s k)
  fault_of a b at o Broken h = tt

  fault : (a b : List Kind) (x : Assignment) (at : ℕ) → IsFault (with a) x at → IsFault (with b) x at
  fault a b x at h = record {
    operation = h.operation;
    there = h.there;
    fault = fault_of a b at h.operation (x at) h.fault;
  }

  pub shapes_with : (a b : List Kind) (list : List (Option Shape)) → IsShapes (with a) list → IsShapes (with b) list
  shapes_with a b list h = record {
    assignment = h.assignment;
    least = least a b h.assignment h.least;
    whole = λ at f. h.whole at (fault b a h.assignment at f);
    count = h.count;
    shown = h.shown;
  }

  pub bad_with : (a b : List Kind) (at : ℕ) → IsBadCode (with a) at → IsBadCode (with b) at
  bad_with a b at h = record {
    assignment = h.assignment;
    least = least a b h.assignment h.least;
    first = record {
      fault = fault a b h.assignment at h.first.fault;
      first = λ before less f. h.first.first before less (fault b a h.assignment before f);
    };
  }

-- ---- what is said of one program with the code is said of each

module _ (consts : List Place) (c : code.Program) (p q : Program) (hp : HasCode consts c p) (hq : HasCode consts c q) where
  operations_are : p.operations ≡ q.operations
  operations_are = all_resolve_once consts c.instrs p.operations q.operations hp.operations hq.operations

  handlers_are : p.handlers ≡ q.handlers
  handlers_are = zip_once (IsHandlerOf consts) c.handlers p.handlers q.handlers (one_handler consts) hp.handlers hq.handlers

  -- it is the other one, but for its parameters
  moved : (P : Program → Type 0)
      → ((ps qs : List Kind) (os : List Operation) (hs : List Handler) → P (record { parameters = ps; operations = os; handlers = hs }) → P (record { parameters = qs; operations = os; handlers = hs }))
      → P p → P q
  moved P step h =
      subst (λ (os : List Operation). P (record { parameters = q.parameters; operations = os; handlers = q.handlers })) operations_are
      (subst (λ (hs : List Handler). P (record { parameters = q.parameters; operations = p.operations; handlers = hs })) handlers_are
      (step p.parameters q.parameters p.operations p.handlers h))

module _ (consts : List Place) (c : code.Program) (class : List ℕ) (p : Program) (entry : program.Shape) (frames : List (ℕ × program.Shape)) (result : Option (Option Kind)) where
  shapes_on : (q : Program) (list : List (Option Shape)) → HasCode consts c p → HasCode consts c q
      → IsShapes (method_of class p entry frames result) list → IsShapes (method_of class q entry frames result) list
  shapes_on q list hp hq h =
      moved consts c p q hp hq (λ (r : Program). IsShapes (method_of class r entry frames result) list)
      (λ ps qs os hs k. shapes_with class _ _ result os hs ps qs list k) h

  bad_on : (q : Program) (at : ℕ) → HasCode consts c p → HasCode consts c q
      → IsBadCode (method_of class p entry frames result) at → IsBadCode (method_of class q entry frames result) at
  bad_on q at hp hq h =
      moved consts c p q hp hq (λ (r : Program). IsBadCode (method_of class r entry frames result) at)
      (λ ps qs os hs k. bad_with class _ _ result os hs ps qs at k) h

  pub shapes_of_all : (found : Result Shapes ShapeFault) → HasCode consts c p
      → IfOk found (λ s. IsShapes (method_of class p entry frames result) (shapes_seen s.list))
      → IfOk found (λ s. (q : Program) → HasCode consts c q → IsShapes (method_of class q entry frames result) (shapes_seen s.list))
  shapes_of_all (Ok s) hp h = λ q hq. shapes_on q (shapes_seen s.list) hp hq h
  shapes_of_all (Err e) hp h = tt

  pub bad_of_all : (found : Result Shapes ShapeFault) → HasCode consts c p
      → ((at : ℕ) → found ≡ Err (ShapeFault.BadCode at) → IsBadCode (method_of class p entry frames result) at)
      → (at : ℕ) (q : Program) → found ≡ Err (ShapeFault.BadCode at) → HasCode consts c q → IsBadCode (method_of class q entry frames result) at
  bad_of_all found hp h at q e hq = bad_on q at hp hq (h at e)
