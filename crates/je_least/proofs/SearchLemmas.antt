-- The search for the least assignment: each step keeps what it knows, and its end is least.
use Rattle.std.proofs.Common.{◌+◌, ◌≡◌, ℕ, zero, suc, ◌<◌, ◌≤◌, ◌⊎◌, List, [], ◌∷◌, ◌++◌, length, get_or, set, Some, None, inl, inr, refl, sym, ap, subst, arith, ◌∙◌}
use Rattle.std.specs.Prelude.{IsTrue, slice_get, replicate, take}
use Rattle.std.specs.List.{AllByRecursion}
use Rattle.std.proofs.lemmas.List.{get_or-set_same, get_or-set_other, length-set, take_all, take_more, length-replicate}
use Rattle.std.proofs.lemmas.Bool.{cases_eq}
use Rattle.std.proofs.lemmas.Option.{none-some, same_Some}
use Rattle.je_machine.specs.Operation.{Operation, Handler}
use Rattle.je_machine.specs.Machine.{covers}
use Rattle.je_shape.specs.Shape.{Shape, AreAlike, Known, Nothing, Has, Broken, KnownBelow}
use Rattle.je_shape.specs.Flow.{flow}
use Rattle.je_shape.specs.Least.{Method, caught, successors, frame_at, Assignment, Arrives, Reaches, Sends, Serves, Passes, IsLeast}
use Rattle.je_least.specs.Arriving.{IsArrival}
use Rattle.je_least.specs.Searching.{assigned, IsAmong, PassesAt, Gains, IsSolving}
use Rattle.je_shape.proofs.OrderLemmas.{known_self, known_chain, shape_self}
use Rattle.je_shape.proofs.LeastLemmas.{arrives_on, sends_below, passes_below, all_of}
use Rattle.je_shape.proofs.DecidedLemmas.{served, unserved}

-- ---- lists of indexes

pub among_left : (xs ys : List ℕ) (n : ℕ) → IsAmong xs n → IsAmong (xs ++ ys) n
among_left [] ys n h = absurd h
among_left (x ∷ xs) ys n (inl e) = inl e
among_left (x ∷ xs) ys n (inr h) = inr (among_left xs ys n h)

pub among_last : (xs : List ℕ) (n : ℕ) → IsAmong (xs ++ n ∷ []) n
among_last [] n = inl refl
among_last (x ∷ xs) n = inr (among_last xs n)

pub among_front : (xs : List ℕ) (x n : ℕ) → IsAmong (xs ++ x ∷ []) n → IsAmong xs n ⊎ (x ≡ n)
among_front [] x n (inl e) = inr e
among_front [] x n (inr h) = absurd h
among_front (y ∷ xs) x n (inl e) = inl (inl e)
among_front (y ∷ xs) x n (inr h) = on (among_front xs x n h)
  where
    on : IsAmong xs n ⊎ (x ≡ n) → IsAmong (y ∷ xs) n ⊎ (x ≡ n)
    on (inl h) = inl (inr h)
    on (inr e) = inr e

-- ---- what is wanted of an assignment stays while it grows

abbrev Above : Assignment → Assignment → Type 0
Above x y = (at : ℕ) → KnownBelow (x at) (y at)

pub reaches_on : (m : Method) (x y : Assignment) (to : ℕ) (known : Known) → Above x y → Reaches m x to known → Reaches m y to known
reaches_on m x y to known h r inside = arrives_on (frame_at m.frames to) known (x to) (y to) (h to) (r inside)

pub sends_on : (m : Method) (x y : Assignment) (at : ℕ) (o : Operation) (left : Known) (thrown : Handler → Known) → Above x y → Sends m x at o left thrown → Sends m y at o left thrown
sends_on m x y at o left thrown h s =
    record {
      successors =
          all_of (λ to. Reaches m x to left) (λ to. Reaches m y to left) (successors at o)
          (λ to r. reaches_on m x y to left h r) s.successors;
      handlers =
          all_of (λ (e : Handler). IsTrue (covers at e) → Reaches m x e.target (thrown e)) (λ (e : Handler). IsTrue (covers at e) → Reaches m y e.target (thrown e)) m.program.handlers
          (λ e r covered. reaches_on m x y e.target (thrown e) h (r covered)) s.handlers;
    }

pub passes_on : (m : Method) (x y : Assignment) (at : ℕ) (o : Operation) (known : Known) → Above x y → Passes m x at o known → Passes m y at o known
passes_on m x y at o Nothing h p = tt
passes_on m x y at o (Has s) h (inl p) = inl (p.0, sends_on m x y at o (Has (flow m.class at o s)) (λ e. Has (caught e s)) h p.1)
passes_on m x y at o (Has s) h (inr b) = inr (sends_on m x y at o Broken (λ e. Broken) h b)
passes_on m x y at o Broken h p = sends_on m x y at o Broken (λ e. Broken) h p

-- ---- steps

pub gains_none : (W : Assignment → Type 0) (table : List Known) (todo : List ℕ) → W (assigned table) → Gains W table todo table todo
gains_none W table todo w =
    record {
      count = refl;
      grown = λ at. known_self (assigned table at);
      kept = λ at h. h;
      noted = λ at. inl refl;
      met = w;
      least = λ y h v at. h at;
    }

noted_on : (a b c : Known) (more : List ℕ) (at : ℕ) → (b ≡ a) ⊎ IsAmong more at → (more' : List ℕ) → (IsAmong more at → IsAmong more' at) → (c ≡ b) ⊎ IsAmong more' at → (c ≡ a) ⊎ IsAmong more' at
noted_on a b c more at (inl e) more' kept (inl f) = inl (f ∙ e)
noted_on a b c more at (inl e) more' kept (inr h) = inr h
noted_on a b c more at (inr h) more' kept n = inr (kept h)

-- two steps, where the second wants both
pub gains_then : (V W Z : Assignment → Type 0) (a : List Known) (s : List ℕ) (b : List Known) (t : List ℕ) (c : List Known) (u : List ℕ)
    → ((y : Assignment) → Above (assigned b) y → V (assigned b) → W y → Z y)
    → ((y : Assignment) → Z y → V y) → ((y : Assignment) → Z y → W y)
    → Gains V a s b t → Gains W b t c u → Gains Z a s c u
gains_then V W Z a s b t c u both left right g h =
    record {
      count = h.count ∙ g.count;
      grown = λ at. known_chain (assigned a at) (assigned b at) (assigned c at) (g.grown at) (h.grown at);
      kept = λ at k. h.kept at (g.kept at k);
      noted = λ at. noted_on (assigned a at) (assigned b at) (assigned c at) t at (g.noted at) u (h.kept at) (h.noted at);
      met = both (assigned c) h.grown g.met h.met;
      least = λ y k z. h.least y (g.least y k (left y z)) (right y z);
    }

-- the same step, of what is wanted as much
pub gains_as : (V W : Assignment → Type 0) (a : List Known) (s : List ℕ) (b : List Known) (t : List ℕ)
    → (V (assigned b) → W (assigned b)) → ((y : Assignment) → Above (assigned a) y → W y → V y)
    → Gains V a s b t → Gains W a s b t
gains_as V W a s b t forth back g =
    record {
      count = g.count;
      grown = g.grown;
      kept = g.kept;
      noted = g.noted;
      met = forth g.met;
      least = λ y k w. g.least y k (back y k w);
    }

-- ---- what comes to an index

pub outside_code : (m : Method) (table : List Known) (todo : List ℕ) (to : ℕ) (known : Known) → length table ≡ length m.program.operations → length table ≤ to → Gains (λ y. Reaches m y to known) table todo table todo
outside_code m table todo to known e past = gains_none (λ y. Reaches m y to known) table todo (λ inside. absurd (omega (arith, e, past, inside)))

pub taken_already : (m : Method) (table : List Known) (todo : List ℕ) (to : ℕ) (known there : Known) → there ≡ assigned table to → Arrives (frame_at m.frames to) known there → Gains (λ y. Reaches m y to known) table todo table todo
taken_already m table todo to known there e h =
    gains_none (λ y. Reaches m y to known) table todo
    (λ inside. subst (λ (k : Known). Arrives (frame_at m.frames to) known k) e h)

pub put_there : (m : Method) (old : List Known) (todo : List ℕ) (new : List Known) (next : List ℕ) (to : ℕ) (known there more : Known) → length old ≡ length m.program.operations → to < length old
    → there ≡ assigned old to → new ≡ set old to more → next ≡ todo ++ to ∷ [] → IsArrival (frame_at m.frames to) known there more
    → Gains (λ y. Reaches m y to known) old todo new next
put_there m old todo new next to known there more n inside e f g h =
    record {
      count = ap length f ∙ length-set old to more;
      grown = λ at. grown at (cases_eq at to);
      kept = λ at k. subst (λ (l : List ℕ). IsAmong l at) (sym g) (among_left todo (to ∷ []) at k);
      noted = λ at. noted at (cases_eq at to);
      met = λ within. subst (λ (k : Known). Arrives (frame_at m.frames to) known k) (sym (same to refl)) h.takes;
      least = λ y k r at. least y k r (omega (arith, n, inside)) at (cases_eq at to);
    }
  where
    other : (at : ℕ) → (at ≡ to → ⊥) → get_or new at Nothing ≡ get_or old at Nothing
    other at d = ap (λ (l : List Known). get_or l at Nothing) f ∙ get_or-set_other old to at more Nothing d

    same : (at : ℕ) → at ≡ to → get_or new at Nothing ≡ more
    same at q = ap (λ (i : ℕ). get_or new i Nothing) q ∙ (ap (λ (l : List Known). get_or l to Nothing) f ∙ get_or-set_same old to more Nothing inside)

    before : (at : ℕ) → at ≡ to → get_or old at Nothing ≡ there
    before at q = ap (λ (i : ℕ). get_or old i Nothing) q ∙ sym e

    grown : (at : ℕ) → (at ≡ to) ⊎ (at ≡ to → ⊥) → KnownBelow (assigned old at) (assigned new at)
    grown at (inl q) =
        subst (λ (k : Known). KnownBelow (assigned old at) k) (sym (same at q))
        (subst (λ (k : Known). KnownBelow k more) (sym (before at q)) h.keeps)
    grown at (inr d) = subst (λ (k : Known). KnownBelow (assigned old at) k) (sym (other at d)) (known_self (assigned old at))

    noted : (at : ℕ) → (at ≡ to) ⊎ (at ≡ to → ⊥) → (assigned new at ≡ assigned old at) ⊎ IsAmong next at
    noted at (inl q) = inr (subst (λ (l : List ℕ). IsAmong l at) (sym g) (subst (λ (i : ℕ). IsAmong (todo ++ to ∷ []) i) (sym q) (among_last todo to)))
    noted at (inr d) = inl (other at d)

    least : (y : Assignment) → Above (assigned old) y → Reaches m y to known → to < length m.program.operations → (at : ℕ) → (at ≡ to) ⊎ (at ≡ to → ⊥) → KnownBelow (assigned new at) (y at)
    least y k r within at (inl q) =
        subst (λ (a : Known). KnownBelow a (y at)) (sym (same at q))
        (subst (λ (i : ℕ). KnownBelow more (y i)) (sym q)
        (h.least (y to) (subst (λ (a : Known). KnownBelow a (y to)) (sym e) (k to)) (r within)))
    least y k r within at (inr d) = subst (λ (a : Known). KnownBelow a (y at)) (sym (other at d)) (k at)

-- ---- to each of a list

all_push : {A : Type 0} (P : A → Type 0) (xs : List A) (a : A) → AllByRecursion P xs → P a → AllByRecursion P (xs ++ a ∷ [])
all_push P [] a h p = (p, tt)
all_push P (x ∷ xs) a h p = (h.0, all_push P xs a h.1 p)

all_front : {A : Type 0} (P : A → Type 0) (xs : List A) (a : A) → AllByRecursion P (xs ++ a ∷ []) → AllByRecursion P xs
all_front P [] a h = tt
all_front P (x ∷ xs) a h = (h.0, all_front P xs a h.1)

all_last : {A : Type 0} (P : A → Type 0) (xs : List A) (a : A) → AllByRecursion P (xs ++ a ∷ []) → P a
all_last P [] a h = h.0
all_last P (x ∷ xs) a h = all_last P xs a h.1

-- the first so many of them, and one more
pub gains_more : {A : Type 0} (P : Assignment → A → Type 0) → ((x y : Assignment) → Above x y → (e : A) → P x e → P y e)
    → (list : List A) (i : ℕ) (e d : A) → i < length list → e ≡ get_or list i d
    → (a : List Known) (s : List ℕ) (b : List Known) (t : List ℕ) (c : List Known) (u : List ℕ)
    → Gains (λ y. AllByRecursion (P y) (take i list)) a s b t → Gains (λ y. P y e) b t c u
    → Gains (λ y. AllByRecursion (P y) (take (i + 1) list)) a s c u
gains_more {A = A} P on list i e d inside q a s b t c u g h =
    let more : take (i + 1) list ≡ take i list ++ e ∷ [] =
    take_more list i d inside ∙ ap (λ (x : A). take i list ++ x ∷ []) (sym q) in
    subst (λ (l : List A). Gains (λ y. AllByRecursion (P y) l) a s c u) (sym more)
    (gains_then (λ y. AllByRecursion (P y) (take i list)) (λ y. P y e) (λ y. AllByRecursion (P y) (take i list ++ e ∷ [])) a s b t c u
    (λ y k v w. all_push (P y) (take i list) e (all_of (P (assigned b)) (P y) (take i list) (λ x p. on (assigned b) y k x p) v) w)
    (λ y z. all_front (P y) (take i list) e z)
    (λ y z. all_last (P y) (take i list) e z)
    g h)

pub gains_whole : {A : Type 0} (P : Assignment → A → Type 0) (list : List A) (i : ℕ) → length list ≤ i
    → (a : List Known) (s : List ℕ) (b : List Known) (t : List ℕ)
    → Gains (λ y. AllByRecursion (P y) (take i list)) a s b t → Gains (λ y. AllByRecursion (P y) list) a s b t
gains_whole {A = A} P list i past a s b t g =
    subst (λ (l : List A). Gains (λ y. AllByRecursion (P y) l) a s b t) (take_all i list past) g

pub gains_begin : {A : Type 0} (P : Assignment → A → Type 0) (list : List A) (a : List Known) (s : List ℕ) → Gains (λ y. AllByRecursion (P y) (take 0 list)) a s a s
gains_begin P list a s = gains_none (λ y. AllByRecursion (P y) (take 0 list)) a s tt

abbrev pub ToSuccessor : Method → Known → Assignment → ℕ → Type 0
ToSuccessor m known y to = Reaches m y to known

abbrev pub ToHandler : Method → ℕ → (Handler → Known) → Assignment → Handler → Type 0
ToHandler m at thrown y h = IsTrue (covers at h) → Reaches m y h.target (thrown h)

pub successors_more : (m : Method) (known : Known) (list : List ℕ) (i : ℕ) (e d : ℕ) → i < length list → e ≡ get_or list i d
    → (a : List Known) (s : List ℕ) (b : List Known) (t : List ℕ) (c : List Known) (u : List ℕ)
    → Gains (λ y. AllByRecursion (ToSuccessor m known y) (take i list)) a s b t → Gains (λ y. Reaches m y e known) b t c u
    → Gains (λ y. AllByRecursion (ToSuccessor m known y) (take (i + 1) list)) a s c u
successors_more m known list i e d inside q a s b t c u g h =
    gains_more (ToSuccessor m known) (λ x y k to r. reaches_on m x y to known k r) list i e d inside q a s b t c u g h

handler_on : (m : Method) (at : ℕ) (thrown : Handler → Known) (x y : Assignment) → Above x y → (h : Handler) → ToHandler m at thrown x h → ToHandler m at thrown y h
handler_on m at thrown x y k h r covered = reaches_on m x y h.target (thrown h) k (r covered)

pub handlers_more : (m : Method) (at : ℕ) (thrown : Handler → Known) (list : List Handler) (i : ℕ) (e d : Handler) → i < length list → e ≡ get_or list i d
    → (a : List Known) (s : List ℕ) (b : List Known) (t : List ℕ) (c : List Known) (u : List ℕ)
    → Gains (λ y. AllByRecursion (ToHandler m at thrown y) (take i list)) a s b t → Gains (λ y. ToHandler m at thrown y e) b t c u
    → Gains (λ y. AllByRecursion (ToHandler m at thrown y) (take (i + 1) list)) a s c u
handlers_more m at thrown list i e d inside q a s b t c u g h =
    gains_more (ToHandler m at thrown) (handler_on m at thrown) list i e d inside q a s b t c u g h

pub gains_sends : (m : Method) (at : ℕ) (o : Operation) (left : Known) (thrown : Handler → Known) (next : List ℕ) → next ≡ successors at o
    → (a : List Known) (s : List ℕ) (b : List Known) (t : List ℕ) (c : List Known) (u : List ℕ)
    → Gains (λ y. AllByRecursion (ToSuccessor m left y) next) a s b t
    → Gains (λ y. AllByRecursion (ToHandler m at thrown y) m.program.handlers) b t c u
    → Gains (λ y. Sends m y at o left thrown) a s c u
gains_sends m at o left thrown next q a s b t c u g h =
    gains_then (λ y. AllByRecursion (ToSuccessor m left y) next) (λ y. AllByRecursion (ToHandler m at thrown y) m.program.handlers) (λ y. Sends m y at o left thrown) a s b t c u
    (λ y k v w. record {
      successors =
          all_of (ToSuccessor m left (assigned b)) (ToSuccessor m left y) (successors at o) (λ to r. reaches_on m (assigned b) y to left k r)
          (subst (λ (l : List ℕ). AllByRecursion (ToSuccessor m left (assigned b)) l) q v);
      handlers = w;
    })
    (λ y z. subst (λ (l : List ℕ). AllByRecursion (ToSuccessor m left y) l) (sym q) z.successors)
    (λ y z. z.handlers)
    g h

-- ---- from an index

caught_self : (s : Shape) (h : Handler) → KnownBelow (Has (caught h s)) (Has (caught h s))
caught_self s h = shape_self (caught h s)

pub gains_served : (m : Method) (at : ℕ) (o : Operation) (s t : Shape) (thrown : Handler → Known) → Serves m at o s → AreAlike t (flow m.class at o s)
    → ((h : Handler) → thrown h ≡ Has (caught h s))
    → (a : List Known) (r : List ℕ) (b : List Known) (u : List ℕ)
    → Gains (λ y. Sends m y at o (Has t) thrown) a r b u → Gains (λ y. Passes m y at o (Has s)) a r b u
gains_served m at o s t thrown serves alike same a r b u g =
    gains_as (λ y. Sends m y at o (Has t) thrown) (λ y. Passes m y at o (Has s)) a r b u
    (λ z. inl (
      serves,
      sends_below m (assigned b) at o (Has (flow m.class at o s)) (Has t) (λ h. Has (caught h s)) thrown alike.above
          (λ h. subst (λ (k : Known). KnownBelow (Has (caught h s)) k) (sym (same h)) (caught_self s h)) z,
    ))
    (λ y k p. sends_below m y at o (Has t) (Has (flow m.class at o s)) thrown (λ h. Has (caught h s)) alike.below
    (λ h. subst (λ (k : Known). KnownBelow k (Has (caught h s))) (sym (same h)) (caught_self s h)) (served m y at o s p serves))
    g

pub gains_unserved : (m : Method) (at : ℕ) (o : Operation) (s : Shape) → (Serves m at o s → ⊥)
    → (a : List Known) (r : List ℕ) (b : List Known) (u : List ℕ)
    → Gains (λ y. Sends m y at o Broken (λ h. Broken)) a r b u → Gains (λ y. Passes m y at o (Has s)) a r b u
gains_unserved m at o s n a r b u g =
    gains_as (λ y. Sends m y at o Broken (λ h. Broken)) (λ y. Passes m y at o (Has s)) a r b u
    (λ z. inr z) (λ y k p. unserved m y at o s p n) g

pub gains_at : (m : Method) (at : ℕ) (o : Operation) (known : Known) → slice_get m.program.operations at ≡ Some o
    → (a : List Known) (r : List ℕ) (b : List Known) (u : List ℕ)
    → Gains (λ y. Passes m y at o known) a r b u → Gains (λ y. PassesAt m y at known) a r b u
gains_at m at o known e a r b u g =
    gains_as (λ y. Passes m y at o known) (λ y. PassesAt m y at known) a r b u
    (λ p other f. subst (λ (x : Operation). Passes m (assigned b) at x known) (same_Some o other (sym e ∙ f)) p)
    (λ y k p. p o e) g

pub gains_nowhere : (m : Method) (at : ℕ) (known : Known) → slice_get m.program.operations at ≡ None
    → (a : List Known) (r : List ℕ) → Gains (λ y. PassesAt m y at known) a r a r
gains_nowhere m at known e a r =
    gains_none (λ y. PassesAt m y at known) a r (λ o f. absurd (none-some o (sym e ∙ f)))

pub gains_nothing : (m : Method) (at : ℕ) (a : List Known) (r : List ℕ) → Gains (λ y. PassesAt m y at Nothing) a r a r
gains_nothing m at a r = gains_none (λ y. PassesAt m y at Nothing) a r (λ o e. tt)

-- ---- the whole

nothing_at : (n at : ℕ) → assigned (replicate n Nothing) at ≡ Nothing
nothing_at zero at = refl
nothing_at (suc n) zero = refl
nothing_at (suc n) (suc at) = nothing_at n at

pub solving_begins : (m : Method) (none : List Known) (todo : List ℕ) (table : List Known) (next : List ℕ) → none ≡ replicate (length m.program.operations) Nothing → todo ≡ []
    → Gains (λ y. Reaches m y 0 (Has m.entry)) none todo table next → IsSolving m table next
solving_begins m none todo table next e f g =
    record {
      count = g.count ∙ (ap length e ∙ length-replicate (length m.program.operations) Nothing);
      starts = g.met;
      below = λ y closed. g.least y (λ at. subst (λ (k : Known). KnownBelow k (y at)) (sym (nothing at)) tt) closed.starts;
      passes = λ at. passes at (g.noted at);
    }
  where
    nothing : (at : ℕ) → assigned none at ≡ Nothing
    nothing at = ap (λ (l : List Known). assigned l at) e ∙ nothing_at (length m.program.operations) at

    passes : (at : ℕ) → (assigned table at ≡ assigned none at) ⊎ IsAmong next at → IsAmong next at ⊎ PassesAt m (assigned table) at (assigned table at)
    passes at (inl q) = inr (λ o h. subst (λ (k : Known). Passes m (assigned table) at o k) (sym (q ∙ nothing at)) tt)
    passes at (inr k) = inl k

pub solving_on : (m : Method) (old : List Known) (todo rest : List ℕ) (at : ℕ) (new : List Known) (next : List ℕ) → todo ≡ rest ++ at ∷ [] → IsSolving m old todo
    → Gains (λ y. PassesAt m y at (assigned old at)) old rest new next → IsSolving m new next
solving_on m old todo rest at new next e h g =
    record {
      count = g.count ∙ h.count;
      starts = reaches_on m (assigned old) (assigned new) 0 (Has m.entry) g.grown h.starts;
      below = λ y closed. g.least y (h.below y closed) (λ o f. passes_below m y at o (assigned old at) (y at) (h.below y closed at) (closed.passes at o f));
      passes = λ i. passes i (g.noted i) (h.passes i);
    }
  where
    moved : (i : ℕ) → assigned new i ≡ assigned old i → PassesAt m (assigned new) i (assigned old i) → PassesAt m (assigned new) i (assigned new i)
    moved i q p o f = subst (λ (k : Known). Passes m (assigned new) i o k) (sym q) (p o f)

    among : (i : ℕ) → assigned new i ≡ assigned old i → IsAmong rest i ⊎ (at ≡ i) → IsAmong next i ⊎ PassesAt m (assigned new) i (assigned new i)
    among i q (inl k) = inl (g.kept i k)
    among i q (inr same) = inr (moved i q (subst (λ (n : ℕ). PassesAt m (assigned new) n (assigned old n)) same g.met))

    passes : (i : ℕ) → (assigned new i ≡ assigned old i) ⊎ IsAmong next i → IsAmong todo i ⊎ PassesAt m (assigned old) i (assigned old i) → IsAmong next i ⊎ PassesAt m (assigned new) i (assigned new i)
    passes i (inr k) p = inl k
    passes i (inl q) (inl k) = among i q (among_front rest at i (subst (λ (l : List ℕ). IsAmong l i) e k))
    passes i (inl q) (inr p) = inr (moved i q (λ o f. passes_on m (assigned old) (assigned new) i o (assigned old i) g.grown (p o f)))

pub solving_ends : (m : Method) (table : List Known) (todo : List ℕ) → todo ≡ [] → IsSolving m table todo → IsLeast m (assigned table)
solving_ends m table todo e h =
    record {
      closed = record { starts = h.starts; passes = λ at. passes at (h.passes at) };
      least = h.below;
    }
  where
    passes : (at : ℕ) → IsAmong todo at ⊎ PassesAt m (assigned table) at (assigned table at) → PassesAt m (assigned table) at (assigned table at)
    passes at (inl k) = absurd (subst (λ (l : List ℕ). IsAmong l at) e k)
    passes at (inr p) = p
