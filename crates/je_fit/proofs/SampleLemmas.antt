-- A small method whose shapes are sound, and others whose are not.
use Rattle.std.proofs.Common.{◌≡◌, ℕ, zero, suc, [], ◌∷◌, Option, Some, None, refl, sym, subst, ◌∙◌, arith, lit<}
use Rattle.je_machine.specs.Operation.{Operation, Do, Nop, Drop, Return}
use Rattle.je_shape.specs.Shape.{Shape, Nothing, Has}
use Rattle.je_shape.specs.Flow.{shape_of}
use Rattle.je_shape.specs.Least.{Method, Assignment, Serves, IsFault}
use Rattle.je_shape.specs.Sample.{plain_method, at_two}
use Rattle.je_shape.proofs.DecidedLemmas.{both_reached, lone_pop}
use Rattle.je_fit.specs.Sound.{IsSound}
use Rattle.je_fit.proofs.SoundLemmas.{least_sound}

abbrev two : Method
two = plain_method (Do Nop ∷ Return None ∷ [])

abbrev empty : Shape
empty = shape_of [] []

-- no shape is at fault that serves what stands there
served_there : (at : ℕ) (o : Operation) (found : Operation) → Some o ≡ Some found → Serves two at o empty → (Serves two at found empty → ⊥) → ⊥
served_there at o found e serves refuted =
    let P : Option Operation → Type 0 = λ p. elim p as (λ q. Type 0) [ None ↦ Unit {0} | Some q ↦ Serves two at q empty ] in
    refuted (subst P e serves)

no_fault : (at : ℕ) → IsFault two (at_two empty) at → ⊥
no_fault zero f = served_there 0 (Do Nop) f.operation f.there (record { shape = tt; returns = tt; inside = (lit< tt, tt) }) f.fault
no_fault (suc zero) f = served_there 1 (Return None) f.operation f.there (record { shape = tt; returns = refl; inside = tt }) f.fault
no_fault (suc (suc at)) f = f.fault

pub two_sound : IsSound (plain_method (Do Nop ∷ Return None ∷ [])) (at_two (shape_of [] []))
two_sound = least_sound two (at_two empty) both_reached no_fault

known_nothing : (s : Shape) → Has s ≡ Nothing → ⊥
known_nothing s e = absurd cc

pub behind_unsound : (x : Assignment) (s : Shape) → x 1 ≡ Has s → IsSound (plain_method (Return None ∷ [])) x → ⊥
behind_unsound x s e sound = known_nothing s (sym e ∙ sound.behind 1 (omega arith))

pub fault_unsound : (x : Assignment) → IsSound (plain_method (Do (Drop 1) ∷ [])) x → ⊥
fault_unsound x sound = sound.whole 0 (lone_pop x sound.closed).fault
