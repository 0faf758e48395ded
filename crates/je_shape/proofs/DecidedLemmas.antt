-- A shape that serves flows on, and one that does not flows on as broken; small methods.
use Rattle.std.proofs.Common.{◌≡◌, ℕ, zero, suc, ◌<◌, List, [], ◌∷◌, Option, Some, None, inl, inr, refl, subst, arith, lit<}
use Rattle.std.specs.Prelude.{slice_get}
use Rattle.je_machine.specs.Operation.{Operation, Do, Nop, Drop, Return}
use Rattle.je_shape.specs.Shape.{Shape, Known, Nothing, Has, Broken, KnownBelow}
use Rattle.je_shape.specs.Flow.{shape_of, flow}
use Rattle.je_shape.specs.Least.{Method, caught, Assignment, Sends, Serves, Passes, IsClosed, IsLeast, IsFaultOf, IsFirstFault}
use Rattle.je_shape.specs.Sample.{plain_method, at_two}
use Rattle.je_shape.proofs.OrderLemmas.{shape_self}
use Rattle.je_shape.proofs.LeastLemmas.{sends_below, passes_below, method_serves}

pub served : (m : Method) (x : Assignment) (at : ℕ) (o : Operation) (s : Shape) → Passes m x at o (Has s) → Serves m at o s → Sends m x at o (Has (flow m.class at o s)) (λ h. Has (caught h s))
served m x at o s (inl p) k = p.1
served m x at o s (inr b) k =
    sends_below m x at o (Has (flow m.class at o s)) Broken (λ h. Has (caught h s)) (λ h. Broken) tt (λ h. tt) b

pub unserved : (m : Method) (x : Assignment) (at : ℕ) (o : Operation) (s : Shape) → Passes m x at o (Has s) → (Serves m at o s → ⊥) → Sends m x at o Broken (λ h. Broken)
unserved m x at o s (inl p) k = absurd (k p.0)
unserved m x at o s (inr b) k = b

-- ---- small methods

fault_at : (m : Method) (o : Operation) (e : Shape) (k : Known) → (Serves m 0 o e → ⊥) → KnownBelow (Has e) k → IsFaultOf m 0 o k
fault_at m o e Nothing n h = absurd h
fault_at m o e (Has t) n h = λ serves. n (method_serves m 0 o e t h serves)
fault_at m o e Broken n h = tt

pub first_instruction : (o : Operation) (rest : List Operation) (x : Assignment) → IsClosed (plain_method (o ∷ rest)) x
    → (Serves (plain_method (o ∷ rest)) 0 o (shape_of [] []) → ⊥) → IsFirstFault (plain_method (o ∷ rest)) x 0
first_instruction o rest x closed n =
    record {
      fault =
          record {
            operation = o;
            there = refl;
            fault = fault_at (plain_method (o ∷ rest)) o (shape_of [] []) (x 0) n (closed.starts (omega arith));
          };
      first = λ before less f. absurd (omega (arith, less));
    }

pub lone_pop : (x : Assignment) → IsClosed (plain_method (Do (Drop 1) ∷ [])) x → IsFirstFault (plain_method (Do (Drop 1) ∷ [])) x 0
lone_pop x closed = first_instruction (Do (Drop 1)) [] x closed (λ s. s.shape)

pub lone_nop : (x : Assignment) → IsClosed (plain_method (Do Nop ∷ [])) x → IsFirstFault (plain_method (Do Nop ∷ [])) x 0
lone_nop x closed =
    first_instruction (Do Nop) [] x closed
    (λ s. let less : 1 < 1 = s.inside.0 in omega (arith, less))

abbrev two : Method
two = plain_method (Do Nop ∷ Return None ∷ [])

abbrev empty : Shape
empty = shape_of [] []

nop_serves : Serves two 0 (Do Nop) empty
nop_serves = record { shape = tt; returns = tt; inside = (lit< tt, tt) }

abbrev At : ℕ → Option Operation → Type 0
At at None = Unit {0}
At at (Some o) = Passes two (at_two empty) at o (at_two empty at)

nop_passes : Passes two (at_two empty) 0 (Do Nop) (Has empty)
nop_passes =
    inl (
      nop_serves,
      record {
        successors = (λ inside. shape_self empty, tt);
        handlers = tt;
      },
    )

return_passes : Passes two (at_two empty) 1 (Return None) (Has empty)
return_passes =
    inl (
      record { shape = tt; returns = refl; inside = tt },
      record {
        successors = tt;
        handlers = tt;
      },
    )

two_passes : (at : ℕ) (o : Operation) → slice_get (Do Nop ∷ Return None ∷ []) at ≡ Some o → Passes two (at_two empty) at o (at_two empty at)
two_passes zero o e = subst (At 0) e nop_passes
two_passes (suc zero) o e = subst (At 1) e return_passes
two_passes (suc (suc at)) o e = tt

two_least : (y : Assignment) → IsClosed two y → (at : ℕ) → KnownBelow (at_two empty at) (y at)
two_least y closed zero = closed.starts (lit< tt)
two_least y closed (suc zero) =
    let first = passes_below two y 0 (Do Nop) (Has empty) (y 0) (closed.starts (lit< tt)) (closed.passes 0 (Do Nop) refl) in
    (served two y 0 (Do Nop) empty first nop_serves).successors.0 (lit< tt)
two_least y closed (suc (suc at)) = tt

pub both_reached : IsLeast (plain_method (Do Nop ∷ Return None ∷ [])) (at_two (shape_of [] []))
both_reached =
    record {
      closed = record { starts = λ inside. shape_self empty; passes = two_passes };
      least = two_least;
    }
