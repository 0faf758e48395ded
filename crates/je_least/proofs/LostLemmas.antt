-- The first slot that is lost.
use Rattle.std.proofs.Common.{◌≡◌, ℕ, zero, suc, ◌+◌, ◌<◌, ◌≤◌, ◌⊎◌, List, [], ◌∷◌, ◌++◌, length, get_or, take, Option, Some, None, inl, inr, refl, sym, ap, subst, arith, ◌∙◌}
use Rattle.std.specs.Prelude.{Contains, MatchOption, slice_get, ◌↔◌, IsTrue, Bool, true, false, not, map}
use Rattle.std.proofs.lemmas.Bool.{false≢true}
use Rattle.std.proofs.lemmas.List.{take_all, take_more}
use Rattle.std.proofs.lemmas.Option.{none-some, same_Some, slice_get_read, slice_get_past}
use Rattle.je_shape.specs.declared.slot.Slot as program
use Rattle.je_shape.specs.Slot.{Slot, Top}
use Rattle.je_shape.specs.Shape.{Shape, local_at}
use Rattle.je_shape.specs.Least.{ItemAgrees}
use Rattle.je_shape.specs.Views.{slot_seen, uses_seen}
use Rattle.je_least.specs.Answer.{known_of}
use Rattle.je_least.specs.Lost.{Differs, IsLost, IsFirstLost}
use Rattle.je_least.specs.Losing.{IsOneOf, IsNotBefore, IsLostAt, Improves, IsLostOf, IsFirstOf}

one_of : {A : Type 0} (xs : List A) (k : ℕ) (x : A) → k < length xs → get_or xs k x ≡ x → IsOneOf xs x
one_of [] k x h e = absurd (omega (arith, h))
one_of (y ∷ xs) zero x h e = inl e
one_of (y ∷ xs) (suc k) x h e = inr (one_of xs k x (omega (arith, h)) e)

one_from : {A : Type 0} (xs : List A) (x : A) → Contains xs x → IsOneOf xs x
one_from xs x h = one_of xs h.0 x h.1 h.2

later : {A : Type 0} (y : A) (xs : List A) (x : A) → Contains xs x → Contains (y ∷ xs) x
later y xs x h = (suc h.0, omega (arith, h.1), h.2)

contained : {A : Type 0} (xs : List A) (x : A) → IsOneOf xs x → Contains xs x
contained [] x h = absurd h
contained (y ∷ xs) x (inl e) = (zero, omega arith, e)
contained (y ∷ xs) x (inr h) = later y xs x (contained xs x h)

one_last : {A : Type 0} (xs : List A) (y x : A) → IsOneOf (xs ++ y ∷ []) x → IsOneOf xs x ⊎ (y ≡ x)
one_last [] y x (inl e) = inr e
one_last [] y x (inr h) = absurd h
one_last (z ∷ xs) y x (inl e) = inl (inl e)
one_last (z ∷ xs) y x (inr h) = on (one_last xs y x h)
  where
    on : IsOneOf xs x ⊎ (y ≡ x) → IsOneOf (z ∷ xs) x ⊎ (y ≡ x)
    on (inl k) = inl (inr k)
    on (inr e) = inr e

one_left : {A : Type 0} (xs ys : List A) (x : A) → IsOneOf xs x → IsOneOf (xs ++ ys) x
one_left [] ys x h = absurd h
one_left (z ∷ xs) ys x (inl e) = inl e
one_left (z ∷ xs) ys x (inr h) = inr (one_left xs ys x h)

one_end : {A : Type 0} (xs : List A) (x : A) → IsOneOf (xs ++ x ∷ []) x
one_end [] x = inl refl
one_end (z ∷ xs) x = inr (one_end xs x)

-- ---- by one slot

pub improves_none : (list : List (Option Shape)) (slot : ℕ) (kind : Slot) (indexes : List ℕ) (old : Option (ℕ × ℕ)) → Improves list slot kind (take 0 indexes) old old
improves_none list slot kind indexes old =
    record { from = inl refl; stays = λ s a h. h; each = λ at h. absurd h.asked }

on_front : (list : List (Option Shape)) (slot : ℕ) (kind : Slot) (xs : List ℕ) (x : ℕ) (old new : Option (ℕ × ℕ))
    → (new ≡ old) ⊎ ((at : ℕ) × (new ≡ Some (slot, at)) × IsLostAt list slot kind xs at)
    → (new ≡ old) ⊎ ((at : ℕ) × (new ≡ Some (slot, at)) × IsLostAt list slot kind (xs ++ x ∷ []) at)
on_front list slot kind xs x old new (inl e) = inl e
on_front list slot kind xs x old new (inr h) =
    inr (h.0, h.1, record { asked = one_left xs (x ∷ []) h.0 h.2.asked; differs = h.2.differs })

pub improves_past : (list : List (Option Shape)) (slot : ℕ) (kind : Slot) (indexes : List ℕ) (i x d : ℕ) (old new : Option (ℕ × ℕ)) → i < length indexes → x ≡ get_or indexes i d
    → (Differs (known_of (slice_get list x)) slot kind → ⊥) → Improves list slot kind (take i indexes) old new → Improves list slot kind (take (i + 1) indexes) old new
improves_past list slot kind indexes i x d old new inside e n h =
    let more : take (i + 1) indexes ≡ take i indexes ++ x ∷ [] =
    take_more indexes i d inside ∙ ap (λ (y : ℕ). take i indexes ++ y ∷ []) (sym e) in
    subst (λ (l : List ℕ). Improves list slot kind l old new) (sym more)
    (record {
      from = on_front list slot kind (take i indexes) x old new h.from;
      stays = h.stays;
      each = λ at k. each at k.differs (one_last (take i indexes) x at k.asked);
    })
  where
    each : (at : ℕ) → Differs (known_of (slice_get list at)) slot kind → IsOneOf (take i indexes) at ⊎ (x ≡ at) → IsNotBefore new slot at
    each at k (inl o) = h.each at (record { asked = o; differs = k })
    each at k (inr q) = absurd (n (subst (λ (a : ℕ). Differs (known_of (slice_get list a)) slot kind) (sym q) k))

pub improves_more : (list : List (Option Shape)) (slot : ℕ) (kind : Slot) (indexes : List ℕ) (i x d : ℕ) (old new next : Option (ℕ × ℕ)) → i < length indexes → x ≡ get_or indexes i d
    → Differs (known_of (slice_get list x)) slot kind → (next ≡ new) ⊎ (next ≡ Some (slot, x)) → ((s a : ℕ) → IsNotBefore new s a → IsNotBefore next s a) → IsNotBefore next slot x
    → Improves list slot kind (take i indexes) old new → Improves list slot kind (take (i + 1) indexes) old next
improves_more list slot kind indexes i x d old new next inside e lost from stays here h =
    let more : take (i + 1) indexes ≡ take i indexes ++ x ∷ [] =
    take_more indexes i d inside ∙ ap (λ (y : ℕ). take i indexes ++ y ∷ []) (sym e) in
    subst (λ (l : List ℕ). Improves list slot kind l old next) (sym more)
    (record {
      from = came from (on_front list slot kind (take i indexes) x old new h.from);
      stays = λ s a k. stays s a (h.stays s a k);
      each = λ at k. each at k.differs (one_last (take i indexes) x at k.asked);
    })
  where
    came : (next ≡ new) ⊎ (next ≡ Some (slot, x)) → (new ≡ old) ⊎ ((at : ℕ) × (new ≡ Some (slot, at)) × IsLostAt list slot kind (take i indexes ++ x ∷ []) at)
        → (next ≡ old) ⊎ ((at : ℕ) × (next ≡ Some (slot, at)) × IsLostAt list slot kind (take i indexes ++ x ∷ []) at)
    came (inl q) (inl r) = inl (q ∙ r)
    came (inl q) (inr k) = inr (k.0, q ∙ k.1, k.2)
    came (inr q) k = inr (x, q, record { asked = one_end (take i indexes) x; differs = lost })

    each : (at : ℕ) → Differs (known_of (slice_get list at)) slot kind → IsOneOf (take i indexes) at ⊎ (x ≡ at) → IsNotBefore next slot at
    each at k (inl o) = stays slot at (h.each at (record { asked = o; differs = k }))
    each at k (inr q) = subst (λ (a : ℕ). IsNotBefore next slot a) q here

pub improves_whole : (list : List (Option Shape)) (slot : ℕ) (kind : Slot) (indexes : List ℕ) (i : ℕ) (old new : Option (ℕ × ℕ)) → length indexes ≤ i
    → Improves list slot kind (take i indexes) old new → Improves list slot kind indexes old new
improves_whole list slot kind indexes i old new past h =
    subst (λ (l : List ℕ). Improves list slot kind l old new) (take_all i indexes past) h

-- ---- by all

pub first_of_none : (list : List (Option Shape)) (used : List (ℕ × Slot)) (indexes : List ℕ) (first : Option (ℕ × ℕ)) → first ≡ None → IsFirstOf list (take 0 used) indexes first
first_of_none list used indexes first e =
    record { from = λ p q. absurd (none-some p (sym e ∙ q)); each = λ slot at h. absurd h.uses }

pub first_of_more : (list : List (Option Shape)) (used : List (ℕ × Slot)) (indexes : List ℕ) (i : ℕ) (x d : ℕ × Slot) (old new : Option (ℕ × ℕ)) → i < length used → x ≡ get_or used i d
    → IsFirstOf list (take i used) indexes old → Improves list x.0 x.1 indexes old new → IsFirstOf list (take (i + 1) used) indexes new
first_of_more list used indexes i x d old new inside e g h =
    let more : take (i + 1) used ≡ take i used ++ x ∷ [] =
    take_more used i d inside ∙ ap (λ (y : ℕ × Slot). take i used ++ y ∷ []) (sym e) in
    subst (λ (l : List (ℕ × Slot)). IsFirstOf list l indexes new) (sym more)
    (record {
      from = λ p q. from p q h.from;
      each = λ slot at k. each slot at k.kind k.lost (one_last (take i used) x (slot, k.kind) k.uses);
    })
  where
    from : (p : ℕ × ℕ) → new ≡ Some p → (new ≡ old) ⊎ ((at : ℕ) × (new ≡ Some (x.0, at)) × IsLostAt list x.0 x.1 indexes at) → IsLostOf list (take i used ++ x ∷ []) indexes p.0 p.1
    from p q (inl r) =
        let k = g.from p (sym r ∙ q) in
        record { kind = k.kind; uses = one_left (take i used) (x ∷ []) (p.0, k.kind) k.uses; lost = k.lost }
    from p q (inr k) =
        let put : ℕ × ℕ = (x.0, k.0) in
        let same : put ≡ p = same_Some put p (sym k.1 ∙ q) in
        subst (λ (r : ℕ × ℕ). IsLostOf list (take i used ++ x ∷ []) indexes r.0 r.1) same
        (record { kind = x.1; uses = one_end (take i used) x; lost = k.2 })

    each : (slot at : ℕ) (kind : Slot) → IsLostAt list slot kind indexes at → IsOneOf (take i used) (slot, kind) ⊎ (x ≡ (slot, kind)) → IsNotBefore new slot at
    each slot at kind k (inl o) = h.stays slot at (g.each slot at (record { kind = kind; uses = o; lost = k }))
    each slot at kind k (inr q) =
        let s : x.0 ≡ slot = ap (λ (r : ℕ × Slot). r.0) q in
        let t : x.1 ≡ kind = ap (λ (r : ℕ × Slot). r.1) q in
        subst (λ (n : ℕ). IsNotBefore new n at) s
        (h.each at
        (subst (λ (n : ℕ). IsLostAt list n x.1 indexes at) (sym s)
        (subst (λ (w : Slot). IsLostAt list slot w indexes at) (sym t) k)))

said : (list : List (Option Shape)) (used : List (ℕ × Slot)) (indexes : List ℕ) (slot at : ℕ) → IsLost list used indexes slot at → IsLostOf list used indexes slot at
said list used indexes slot at h =
    record {
      kind = h.kind;
      uses = one_from used (slot, h.kind) h.uses;
      lost = record { asked = one_from indexes at h.asked; differs = h.differs };
    }

pub first_of_all : (list : List (Option Shape)) (used : List (ℕ × Slot)) (indexes : List ℕ) (i : ℕ) (first : Option (ℕ × ℕ)) → length used ≤ i → IsFirstOf list (take i used) indexes first
    → MatchOption first ((slot at : ℕ) → IsLost list used indexes slot at → ⊥) (λ p. IsFirstLost list used indexes p.0 p.1)
first_of_all list used indexes i first past h =
    by_case first (subst (λ (l : List (ℕ × Slot)). IsFirstOf list l indexes first) (take_all i used past) h)
  where
    by_case : (o : Option (ℕ × ℕ)) → IsFirstOf list used indexes o → MatchOption o ((slot at : ℕ) → IsLost list used indexes slot at → ⊥) (λ p. IsFirstLost list used indexes p.0 p.1)
    by_case None g = λ slot at k. g.each slot at (said list used indexes slot at k)
    by_case (Some p) g =
        let k = g.from p refl in
        record {
          lost =
              record {
                kind = k.kind;
                uses = contained used (p.0, k.kind) k.uses;
                asked = contained indexes p.1 k.lost.asked;
                differs = k.lost.differs;
              };
          first = λ slot at before q. g.each slot at (said list used indexes slot at q) before;
        }

-- ---- one slot

local_found : (xs : List program.Slot) (i : ℕ) (x : program.Slot) → slice_get xs i ≡ Some x → slot_seen x ≡ local_at (map slot_seen xs) i
local_found [] i x e = absurd (none-some x e)
local_found (y ∷ xs) zero x e = ap slot_seen (sym (same_Some y x e))
local_found (y ∷ xs) (suc i) x e = local_found xs i x e

local_past : (xs : List program.Slot) (i : ℕ) → slice_get xs i ≡ None → Top ≡ local_at (map slot_seen xs) i
local_past [] i e = refl
local_past (y ∷ xs) zero e = absurd (none-some y (sym e))
local_past (y ∷ xs) (suc i) e = local_past xs i e

pub not_iff : (b : Bool) (P : Type 0) → (IsTrue b ↔ P) → (IsTrue (not b) ↔ (P → ⊥))
not_iff true P h = (λ e. absurd (false≢true e), λ n. absurd (n (h.0 refl)))
not_iff false P h = (λ e p. absurd (false≢true (h.1 p)), λ n. refl)

pub differs_found : (xs : List program.Slot) (i : ℕ) (x : program.Slot) (kind : Slot) (b : Bool) → i < length xs → x ≡ get_or xs i x → (IsTrue b ↔ ItemAgrees (slot_seen x) kind)
    → (IsTrue (not b) ↔ (ItemAgrees (local_at (map slot_seen xs) i) kind → ⊥))
differs_found xs i x kind b inside e h =
    not_iff b (ItemAgrees (local_at (map slot_seen xs) i) kind)
    (subst (λ (s : Slot). IsTrue b ↔ ItemAgrees s kind) (local_found xs i x (slice_get_read xs (length xs) i x refl inside e)) h)

pub differs_past : (xs : List program.Slot) (i : ℕ) (kind : Slot) (b : Bool) → length xs ≤ i → (IsTrue b ↔ ItemAgrees Top kind)
    → (IsTrue (not b) ↔ (ItemAgrees (local_at (map slot_seen xs) i) kind → ⊥))
differs_past xs i kind b e h =
    not_iff b (ItemAgrees (local_at (map slot_seen xs) i) kind)
    (subst (λ (s : Slot). IsTrue b ↔ ItemAgrees s kind) (local_past xs i (slice_get_past xs i e)) h)

-- ---- the slots that are used

abbrev as_used : ℕ × program.Slot → ℕ × Slot
as_used u = (u.0, slot_seen u.1)

use_at : (used : List (ℕ × program.Slot)) (i : ℕ) (d : ℕ × program.Slot) → get_or (uses_seen used) i (as_used d) ≡ as_used (get_or used i d)
use_at [] i d = refl
use_at (u ∷ used) zero d = refl
use_at (u ∷ used) (suc i) d = use_at used i d

uses_long : (used : List (ℕ × program.Slot)) → length (uses_seen used) ≡ length used
uses_long [] = refl
uses_long (u ∷ used) = ap (λ (n : ℕ). suc n) (uses_long used)

pub lost_more : (list : List (Option Shape)) (used : List (ℕ × program.Slot)) (indexes : List ℕ) (i : ℕ) (x : ℕ × program.Slot) (old new : Option (ℕ × ℕ)) → i < length used → x ≡ get_or used i x
    → IsFirstOf list (take i (uses_seen used)) indexes old → Improves list x.0 (slot_seen x.1) indexes old new → IsFirstOf list (take (i + 1) (uses_seen used)) indexes new
lost_more list used indexes i x old new inside e g h =
    first_of_more list (uses_seen used) indexes i (as_used x) (as_used x) old new (omega (arith, uses_long used, inside))
    (ap as_used e ∙ sym (use_at used i x)) g h

pub lost_ends : (list : List (Option Shape)) (used : List (ℕ × program.Slot)) (indexes : List ℕ) (i : ℕ) (first : Option (ℕ × ℕ)) → length used ≤ i → IsFirstOf list (take i (uses_seen used)) indexes first
    → MatchOption first ((slot at : ℕ) → IsLost list (uses_seen used) indexes slot at → ⊥) (λ p. IsFirstLost list (uses_seen used) indexes p.0 p.1)
lost_ends list used indexes i first past h =
    first_of_all list (uses_seen used) indexes i first (omega (arith, uses_long used, past)) h
