-- What comes to an index and what goes on from it are monotone; two least assignments are one.
use Rattle.std.proofs.Common.{◌≡◌, ℕ, ◌<◌, List, [], ◌∷◌, Option, Some, None, inl, inr, ◌∙◌, arith}
use Rattle.std.specs.Prelude.{IsTrue}
use Rattle.std.specs.List.{AllByRecursion}
use Rattle.je_machine.specs.Operation.{Operation, Handler}
use Rattle.je_machine.specs.Machine.{covers}
use Rattle.je_shape.specs.Slot.{Slot, Top, Is, Reference, IsBelow, IsItemBelow}
use Rattle.je_shape.specs.Shape.{Shape, local_at, StackBelow, ShapeBelow, Known, Nothing, Has, Broken, KnownBelow}
use Rattle.je_shape.specs.Flow.{flow}
use Rattle.je_shape.specs.Least.{Method, successors, caught, ItemAgrees, LocalAgrees, StackAgrees, Agrees, frame_at, Assignment, IsBroken, Arrives, Reaches, Sends, Serves, Passes, IsLeast, IsFaultOf, IsFault, IsFirstFault}
use Rattle.je_shape.proofs.OrderLemmas.{stack_self, known_chain}
use Rattle.je_shape.proofs.FlowLemmas.{serves_below, flow_below}

-- ---- frames

item_agrees : (s t f : Slot) → IsItemBelow s t → ItemAgrees t f → ItemAgrees s f
item_agrees Top Top f h a = a
item_agrees Top (Is b) f h a = absurd h
item_agrees Top (Reference b) f h a = absurd h
item_agrees (Is a) Top f h k = absurd h
item_agrees (Is a) (Is b) Top h k = absurd k
item_agrees (Is a) (Is b) (Is c) h k = h ∙ k
item_agrees (Is a) (Is b) (Reference c) h k = absurd k
item_agrees (Is a) (Reference b) f h k = absurd h
item_agrees (Reference a) Top f h k = absurd h
item_agrees (Reference a) (Is b) f h k = absurd h
item_agrees (Reference a) (Reference b) Top h k = absurd k
item_agrees (Reference a) (Reference b) (Is c) h k = absurd k
item_agrees (Reference a) (Reference b) (Reference c) h k = tt

local_agrees : (s t f : Slot) → IsBelow s t → LocalAgrees t f → LocalAgrees s f
local_agrees s t Top h a = tt
local_agrees s Top (Is c) h a = absurd a
local_agrees Top (Is b) (Is c) h a = absurd h
local_agrees (Is a) (Is b) (Is c) h k = h ∙ k
local_agrees (Reference a) (Is b) (Is c) h k = absurd h
local_agrees s (Reference b) (Is c) h k = absurd k
local_agrees s Top (Reference c) h a = absurd a
local_agrees s (Is b) (Reference c) h a = absurd a
local_agrees Top (Reference b) (Reference c) h k = absurd h
local_agrees (Is a) (Reference b) (Reference c) h k = absurd h
local_agrees (Reference a) (Reference b) (Reference c) h k = tt

stack_agrees : (s t f : List Slot) → StackBelow s t → StackAgrees t f → StackAgrees s f
stack_agrees [] [] f h a = a
stack_agrees [] (y ∷ t) f h a = absurd h
stack_agrees (x ∷ s) [] f h a = absurd h
stack_agrees (x ∷ s) (y ∷ t) [] h a = absurd a
stack_agrees (x ∷ s) (y ∷ t) (z ∷ f) h a = (item_agrees x y z h.0 a.0, stack_agrees s t f h.1 a.1)

pub agrees_below : (s t f : Shape) → ShapeBelow s t → Agrees t f → Agrees s f
agrees_below s t f h a =
    record {
      stack = stack_agrees s.stack t.stack f.stack h.stack a.stack;
      locals = λ i. local_agrees (local_at s.locals i) (local_at t.locals i) (local_at f.locals i) (h.locals i) (a.locals i);
    }

-- ---- what comes

broken_on : (s t : Known) → IsBroken s → KnownBelow s t → IsBroken t
broken_on Nothing t b h = absurd b
broken_on (Has s) t b h = absurd b
broken_on Broken Nothing b h = absurd h
broken_on Broken (Has t) b h = absurd h
broken_on Broken Broken b h = tt

pub arrives_below : (f : Option Shape) (s t there : Known) → KnownBelow s t → Arrives f t there → Arrives f s there
arrives_below None s t there h a = known_chain s t there h a
arrives_below (Some f) Nothing t there h a = tt
arrives_below (Some f) (Has s) Nothing there h a = absurd h
arrives_below (Some f) (Has s) (Has t) there h (inl a) = inl (agrees_below s t f h a.0, a.1)
arrives_below (Some f) (Has s) (Has t) there h (inr b) = inr b
arrives_below (Some f) (Has s) Broken there h a = inr a
arrives_below (Some f) Broken Nothing there h a = absurd h
arrives_below (Some f) Broken (Has t) there h a = absurd h
arrives_below (Some f) Broken Broken there h a = a

pub arrives_on : (f : Option Shape) (s there more : Known) → KnownBelow there more → Arrives f s there → Arrives f s more
arrives_on None s there more h a = known_chain s there more a h
arrives_on (Some f) Nothing there more h a = tt
arrives_on (Some f) (Has s) there more h (inl a) = inl (a.0, known_chain (Has f) there more a.1 h)
arrives_on (Some f) (Has s) there more h (inr b) = inr (broken_on there more b h)
arrives_on (Some f) Broken there more h a = broken_on there more a h

-- ---- what goes on

pub all_of : {A : Type 0} (P Q : A → Type 0) (xs : List A) → ((x : A) → P x → Q x) → AllByRecursion P xs → AllByRecursion Q xs
all_of P Q [] f h = tt
all_of P Q (x ∷ xs) f h = (f x h.0, all_of P Q xs f h.1)

pub sends_below : (m : Method) (x : Assignment) (at : ℕ) (o : Operation) (s t : Known) (c d : Handler → Known) → KnownBelow s t → ((h : Handler) → KnownBelow (c h) (d h)) → Sends m x at o t d → Sends m x at o s c
sends_below m x at o s t c d h k sends =
    record {
      successors =
          all_of (λ to. Reaches m x to t) (λ to. Reaches m x to s) (successors at o)
          (λ to reaches inside. arrives_below (frame_at m.frames to) s t (x to) h (reaches inside)) sends.successors;
      handlers =
          all_of (λ (e : Handler). IsTrue (covers at e) → Reaches m x e.target (d e)) (λ (e : Handler). IsTrue (covers at e) → Reaches m x e.target (c e)) m.program.handlers
          (λ e reaches covered inside. arrives_below (frame_at m.frames e.target) (c e) (d e) (x e.target) (k e) (reaches covered inside)) sends.handlers;
    }

caught_below : (s t : Shape) → ShapeBelow s t → (h : Handler) → ShapeBelow (caught h s) (caught h t)
caught_below s t k h = record { stack = stack_self ((caught h s).stack); locals = k.locals }

pub method_serves : (m : Method) (at : ℕ) (o : Operation) (s t : Shape) → ShapeBelow s t → Serves m at o t → Serves m at o s
method_serves m at o s t h k =
    record {
      shape = serves_below m.program.operations at o s t h k.shape;
      returns = k.returns;
      inside = k.inside;
    }

pub passes_below : (m : Method) (x : Assignment) (at : ℕ) (o : Operation) (s t : Known) → KnownBelow s t → Passes m x at o t → Passes m x at o s
passes_below m x at o Nothing t h p = tt
passes_below m x at o (Has s) Nothing h p = absurd h
passes_below m x at o (Has s) (Has t) h (inl p) =
    inl (
      method_serves m at o s t h p.0,
      sends_below m x at o (Has (flow m.class at o s)) (Has (flow m.class at o t)) (λ e. Has (caught e s)) (λ e. Has (caught e t))
          (flow_below m.class m.program.operations at o s t p.0.shape h) (caught_below s t h) p.1,
    )
passes_below m x at o (Has s) (Has t) h (inr b) = inr b
passes_below m x at o (Has s) Broken h b = inr b
passes_below m x at o Broken Nothing h p = absurd h
passes_below m x at o Broken (Has t) h p = absurd h
passes_below m x at o Broken Broken h p = p

-- ---- two least assignments

pub least_below : (m : Method) (x y : Assignment) → IsLeast m x → IsLeast m y → (at : ℕ) → KnownBelow (x at) (y at)
least_below m x y h k at = h.least y k.closed at

fault_on : (m : Method) (at : ℕ) (o : Operation) (s t : Known) → KnownBelow s t → IsFaultOf m at o s → IsFaultOf m at o t
fault_on m at o Nothing t h f = absurd f
fault_on m at o (Has s) Nothing h f = absurd h
fault_on m at o (Has s) (Has t) h f = λ k. f (method_serves m at o s t h k)
fault_on m at o (Has s) Broken h f = tt
fault_on m at o Broken Nothing h f = absurd h
fault_on m at o Broken (Has t) h f = absurd h
fault_on m at o Broken Broken h f = tt

pub fault_of : (m : Method) (x y : Assignment) (at : ℕ) → KnownBelow (x at) (y at) → IsFault m x at → IsFault m y at
fault_of m x y at h f =
    record {
      operation = f.operation;
      there = f.there;
      fault = fault_on m at f.operation (x at) (y at) h f.fault;
    }

pub same_faults : (m : Method) (x y : Assignment) → IsLeast m x → IsLeast m y → (at : ℕ) → IsFault m x at → IsFault m y at
same_faults m x y h k at f = fault_of m x y at (least_below m x y h k at) f

pub one_first : (m : Method) (x y : Assignment) (i j : ℕ) → IsLeast m x → IsLeast m y → IsFirstFault m x i → IsFirstFault m y j → i ≡ j
one_first m x y i j h k f g =
    let a : i < j → ⊥ = λ less. g.first i less (same_faults m x y h k i f.fault) in
    let b : j < i → ⊥ = λ less. f.first j less (same_faults m y x k h j g.fault) in
    omega (arith, a, b)
