-- To what instructions that are reached lead.
use Rattle.std.proofs.Common.{◌≡◌, ℕ, suc, ◌<◌, ◌≤◌, ◌⊎◌, inl, inr, List, [], ◌∷◌, ◌++◌, length, Some, true, refl, subst, arith}
use Rattle.std.specs.Prelude.{IsTrue, slice_get}
use Rattle.std.specs.List.{AllByRecursion}
use Rattle.std.proofs.lemmas.Bool.{cases_lt}
use Rattle.je_machine.specs.Operation.{Act, Operation, Do, Handler, Program}
use Rattle.je_machine.specs.Machine.{covers}
use Rattle.je_shape.specs.Shape.{Known, Nothing, Has, Broken, KnownBelow}
use Rattle.je_shape.specs.Flow.{flow}
use Rattle.je_shape.specs.Least.{Method, Assignment, successors, caught, Reaches, Sends, Passes, IsClosed, IsFaultOf}
use Rattle.je_keep.specs.MethodCode.{AreFaultless}
use Rattle.je_calls.specs.Chosen.{is_reached, IsPlain}
use Rattle.je_calls.specs.Method.{Task, method_with}

-- ---- lists

pub each_is : {A : Type 0} (P Q : A → Type 0) → ((a : A) → P a → Q a) → (xs : List A) → AllByRecursion P xs → AllByRecursion Q xs
each_is P Q f [] h = tt
each_is P Q f (x ∷ xs) h = (f x h.0, each_is P Q f xs h.1)

pub each_is_both : {A : Type 0} (P Q R : A → Type 0) → ((a : A) → P a → Q a → R a) → (xs : List A) → AllByRecursion P xs → AllByRecursion Q xs → AllByRecursion R xs
each_is_both P Q R f [] h k = tt
each_is_both P Q R f (x ∷ xs) h k = (f x h.0 k.0, each_is_both P Q R f xs h.1 k.1)

pub each_behind : {A : Type 0} (P : A → Type 0) (xs ys : List A) → AllByRecursion P (xs ++ ys) → AllByRecursion P ys
each_behind P [] ys h = h
each_behind P (x ∷ xs) ys h = each_behind P xs ys h.1

pub each_joined : {A : Type 0} (P : A → Type 0) (xs ys : List A) → AllByRecursion P xs → AllByRecursion P ys → AllByRecursion P (xs ++ ys)
each_joined P [] ys h k = k
each_joined P (x ∷ xs) ys h k = (h.0, each_joined P xs ys h.1 k)

-- ---- what is known

reached_above : (a b : Known) → is_reached a ≡ true → KnownBelow a b → is_reached b ≡ true
reached_above Nothing b r h = absurd cc
reached_above (Has s) Nothing r h = absurd h
reached_above (Has s) (Has t) r h = refl
reached_above (Has s) Broken r h = refl
reached_above Broken Nothing r h = absurd h
reached_above Broken (Has t) r h = absurd h
reached_above Broken Broken r h = refl

-- an action goes on to the next index alone
pub plain_next : (o : Operation) (at : ℕ) → IsPlain o → successors at o ≡ suc at ∷ []
plain_next (Do (Act action)) at h = refl
plain_next _ at h = absurd h

module _ (t : Task) (program : Program) (x : Assignment) where
  abbrev m : Method
  m = method_with t program

  abbrev IsHere : ℕ → Type 0
  IsHere to = is_reached (x to) ≡ true

  abbrev count : ℕ
  count = length program.operations

  comes : (left : Known) (to : ℕ) → is_reached left ≡ true → Reaches m x to left → to < count → IsHere to
  comes left to r h less = reached_above left (x to) r (h less)

  -- what is sent on by something that is reached
  pub record Leads (at : ℕ) (o : Operation) : Type 0 where
    pub to : AllByRecursion (λ to. to < count → IsHere to) (successors at o)
    pub thrown : AllByRecursion (λ (h : Handler). IsTrue (covers at h) → h.target < count → IsHere h.target) program.handlers

  sent : (at : ℕ) (o : Operation) (left : Known) (thrown : Handler → Known) → is_reached left ≡ true → ((h : Handler) → is_reached (thrown h) ≡ true)
      → Sends m x at o left thrown → Leads at o
  sent at o left thrown r all sends =
      record {
        to = each_is (λ to. Reaches m x to left) (λ to. to < count → IsHere to) (λ to h less. comes left to r h less) (successors at o) sends.successors;
        thrown = each_is (λ (h : Handler). IsTrue (covers at h) → Reaches m x h.target (thrown h)) (λ (h : Handler). IsTrue (covers at h) → h.target < count → IsHere h.target)
            (λ h k c less. comes (thrown h) h.target (all h) (k c) less) program.handlers sends.handlers;
      }

  passed_on : (at : ℕ) (o : Operation) (known : Known) → is_reached known ≡ true → Passes m x at o known → Leads at o
  passed_on at o Nothing r h = absurd cc
  passed_on at o (Has s) r h =
      elim h [
        | inl k ↦ sent at o (Has (flow m.class at o s)) (λ h. Has (caught h s)) refl (λ h. refl) k.1
        | inr k ↦ sent at o Broken (λ h. Broken) refl (λ h. refl) k
      ]
  passed_on at o Broken r h = sent at o Broken (λ h. Broken) refl (λ h. refl) h

  pub leads : IsClosed m x → (at : ℕ) (o : Operation) → slice_get program.operations at ≡ Some o → IsHere at → Leads at o
  leads closed at o there r = passed_on at o (x at) r (closed.passes at o there)

  pub begins : IsClosed m x → 0 < count → IsHere 0
  begins closed some = reached_above (Has m.entry) (x 0) refl (closed.starts some)

  fault_by : (at : ℕ) (o : Operation) (known : Known) → is_reached known ≡ true → IsPlain o → count ≤ suc at → IsFaultOf m at o known
  fault_by at o Nothing r plain le = absurd cc
  fault_by at o (Has s) r plain le = λ serves.
      let inside : AllByRecursion (λ to. to < count) (suc at ∷ []) = subst (AllByRecursion (λ to. to < count)) (plain_next o at plain) serves.inside in
      let less = inside.0 in omega (arith, less, le)
  fault_by at o Broken r plain le = tt

  next_by : (at : ℕ) (o : Operation) → AreFaultless m x → slice_get program.operations at ≡ Some o → IsHere at → IsPlain o → (suc at < count) ⊎ (count ≤ suc at) → suc at < count
  next_by at o faultless there r plain (inl less) = less
  next_by at o faultless there r plain (inr le) = absurd (faultless.whole at (record { operation = o; there = there; fault = fault_by at o (x at) r plain le }))

  -- an action is not the last instruction
  pub next_within : (at : ℕ) (o : Operation) → AreFaultless m x → slice_get program.operations at ≡ Some o → IsHere at → IsPlain o → suc at < count
  next_within at o faultless there r plain = next_by at o faultless there r plain (cases_lt (suc at) count)
