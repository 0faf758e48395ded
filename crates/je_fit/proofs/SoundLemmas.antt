-- Least shapes without a fault are sound: those that know nothing behind the code are closed too.
use Rattle.std.proofs.Common.{◌≡◌, ℕ, ◌<◌, ◌≤◌, List, [], ◌∷◌, length, inl, inr, refl, sym, ap, subst}
use Rattle.std.specs.Prelude.{IsTrue, if◌then◌else◌, nat_lt}
use Rattle.std.specs.List.{AllByRecursion}
use Rattle.std.proofs.lemmas.Bool.{lt-ltb, le-ltb}
use Rattle.std.proofs.lemmas.Option.{slice_get_within}
use Rattle.je_machine.specs.Operation.{Operation, Handler}
use Rattle.je_machine.specs.Machine.{covers}
use Rattle.je_shape.specs.Shape.{Known, Nothing, Has, Broken, KnownBelow}
use Rattle.je_shape.specs.Flow.{flow}
use Rattle.je_shape.specs.Least.{Method, Assignment, successors, caught, frame_at, Arrives, Reaches, Sends, Passes, IsClosed, IsLeast, IsFault}
use Rattle.je_fit.specs.Sound.{IsSound}

within : ℕ → Assignment → Assignment
within count x at = if nat_lt at count then x at else Nothing

is_within : (count : ℕ) (x : Assignment) (at : ℕ) → at < count → within count x at ≡ x at
unfolding within
is_within count x at h = ap (λ b. if b then x at else Nothing) (lt-ltb at count h)

is_behind : (count : ℕ) (x : Assignment) (at : ℕ) → count ≤ at → within count x at ≡ Nothing
unfolding within
is_behind count x at h = ap (λ b. if b then x at else Nothing) (le-ltb at count h)

all_of : {A : Type 0} (P Q : A → Type 0) (xs : List A) → ((x : A) → P x → Q x) → AllByRecursion P xs → AllByRecursion Q xs
all_of P Q [] f h = tt
all_of P Q (x ∷ xs) f h = (f x h.0, all_of P Q xs f h.1)

abbrev cut : Method → Assignment → Assignment
cut m x = within (length m.program.operations) x

reaches_within : (m : Method) (x : Assignment) (to : ℕ) (k : Known) → Reaches m x to k → Reaches m (cut m x) to k
reaches_within m x to k r inside =
    subst (λ there. Arrives (frame_at m.frames to) k there) (sym (is_within (length m.program.operations) x to inside)) (r inside)

sends_within : (m : Method) (x : Assignment) (at : ℕ) (o : Operation) (k : Known) (thrown : Handler → Known) → Sends m x at o k thrown → Sends m (cut m x) at o k thrown
sends_within m x at o k thrown sends =
    record {
      successors =
          all_of (λ to. Reaches m x to k) (λ to. Reaches m (cut m x) to k) (successors at o) (λ to r. reaches_within m x to k r) sends.successors;
      handlers =
          all_of (λ (h : Handler). IsTrue (covers at h) → Reaches m x h.target (thrown h)) (λ (h : Handler). IsTrue (covers at h) → Reaches m (cut m x) h.target (thrown h))
          m.program.handlers (λ h r covered. reaches_within m x h.target (thrown h) (r covered)) sends.handlers;
    }

passes_within : (m : Method) (x : Assignment) (at : ℕ) (o : Operation) (k : Known) → Passes m x at o k → Passes m (cut m x) at o k
passes_within m x at o Nothing p = tt
passes_within m x at o (Has s) (inl p) = inl (p.0, sends_within m x at o (Has (flow m.class at o s)) (λ h. Has (caught h s)) p.1)
passes_within m x at o (Has s) (inr b) = inr (sends_within m x at o Broken (λ h. Broken) b)
passes_within m x at o Broken b = sends_within m x at o Broken (λ h. Broken) b

closed_within : (m : Method) (x : Assignment) → IsClosed m x → IsClosed m (cut m x)
closed_within m x closed =
    record {
      starts = reaches_within m x 0 (Has m.entry) closed.starts;
      passes = λ at o there.
          let inside = slice_get_within m.program.operations at o there in
          subst (λ k. Passes m (cut m x) at o k) (sym (is_within (length m.program.operations) x at inside))
          (passes_within m x at o (x at) (closed.passes at o there));
    }

below_nothing : (k : Known) → KnownBelow k Nothing → k ≡ Nothing
below_nothing Nothing h = refl
below_nothing (Has s) h = absurd h
below_nothing Broken h = absurd h

pub least_sound : (m : Method) (x : Assignment) → IsLeast m x → ((at : ℕ) → IsFault m x at → ⊥) → IsSound m x
least_sound m x least whole =
    record {
      closed = least.closed;
      whole = whole;
      behind = λ at h.
          below_nothing (x at)
          (subst (λ k. KnownBelow (x at) k) (is_behind (length m.program.operations) x at h) (least.least (cut m x) (closed_within m x least.closed) at));
    }
