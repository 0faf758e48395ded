-- What an add answers and what it leaves is one thing, unless memory runs out.
use Rattle.std.proofs.Common.{◌≡◌, ℕ, ◌⊎◌, List, refl, sym, subst, ◌∙◌, arith, inl, inr}
use Rattle.std.specs.Prelude.{Result, Ok, Err}
use Rattle.je_consts.specs.declared.constant.Const.{Const}
use Rattle.je_consts.specs.declared.constant.Const.TheVariants.{Utf8, Class, NameAndType}
use Rattle.je_consts.specs.declared.constant.MemberTag.{MemberTag}
use Rattle.je_consts.specs.declared.fault.PoolStop.{PoolStop}
use Rattle.je_consts.specs.declared.fault.PoolStop.TheVariants as stops
use Rattle.je_consts.specs.declared.place.Place.{Place}
use Rattle.je_consts.specs.Adding.{Adds, Then, AddsClass, AddsNameAndType, AddsMember, member_of}

abbrev pub Answers : Type 1
Answers = List Place → Result ℕ PoolStop → List Place → Type 0

-- the same answer and the same places, or want of memory
abbrev pub Same : Result ℕ PoolStop → List Place → Result ℕ PoolStop → List Place → Type 0
Same r new s other = ((r ≡ s) × (new ≡ other)) ⊎ ((r ≡ Err stops.Memory) ⊎ (s ≡ Err stops.Memory))

abbrev pub IsOne : Answers → Type 0
IsOne adds = (old : List Place) (r s : Result ℕ PoolStop) (new other : List Place) → adds old r new → adds old s other → Same r new s other

pub Adds-one : (c : Const) → IsOne (Adds c)
Adds-one c old (Ok i) (Ok j) new other (inl (l, e)) (inl (m, f)) =
    let same : i ≡ j = omega (arith, l.least j m.here, m.least i l.here) in
    inl (cc, cc)
Adds-one c old (Ok i) (Ok j) new other (inl (l, e)) (inr a) = absurd (a.room.missing i l.here)
Adds-one c old (Ok i) (Ok j) new other (inr a) (inl (l, e)) = absurd (a.room.missing j l.here)
Adds-one c old (Ok i) (Ok j) new other (inr a) (inr b) = inl (cc (a.index_is, b.index_is), a.places_are ∙ sym b.places_are)
Adds-one c old (Ok i) (Err (stops.Full n)) new other (inl (l, e)) (f, g) = absurd (f.missing i l.here)
Adds-one c old (Ok i) (Err (stops.Full n)) new other (inr a) (f, g) = absurd (omega (arith, a.room.within, f.count_is, f.past))
Adds-one c old (Err (stops.Full n)) (Ok i) new other (f, g) (inl (l, e)) = absurd (f.missing i l.here)
Adds-one c old (Err (stops.Full n)) (Ok i) new other (f, g) (inr a) = absurd (omega (arith, a.room.within, f.count_is, f.past))
Adds-one c old (Err (stops.Full n)) (Err (stops.Full m)) new other (f, g) (h, k) = inl (cc (f.count_is, h.count_is), g ∙ sym k)
Adds-one c old (Err stops.Memory) s new other h k = inr (inl refl)
Adds-one c old r (Err stops.Memory) new other h k = inr (inr refl)

module _ (first : Answers) (next : ℕ → Answers) (one : IsOne first) (others : (index : ℕ) → IsOne (next index)) where
  pub Then-one : IsOne (Then first next)
  Then-one old r s new other (inl (e, p, f)) (inl (d, q, g)) =
      elim (one old (Err e) (Err d) new other f g) [
        | inl same ↦ inl (p ∙ same.0 ∙ sym q, same.1)
        | inr out ↦ elim out [ inl l ↦ inr (inl (p ∙ l)) | inr l ↦ inr (inr (q ∙ l)) ]
      ]
  Then-one old r s new other (inl (e, p, f)) (inr (j, mid, g, k)) =
      elim (one old (Err e) (Ok j) new mid f g) [
        | inl same ↦ let no_index = same.0 in absurd cc
        | inr out ↦ elim out [ inl l ↦ inr (inl (p ∙ l)) | inr l ↦ absurd cc ]
      ]
  Then-one old r s new other (inr (i, mid, f, h)) (inl (d, q, g)) =
      elim (one old (Ok i) (Err d) mid other f g) [
        | inl same ↦ let no_index = same.0 in absurd cc
        | inr out ↦ elim out [ inl l ↦ absurd cc | inr l ↦ inr (inr (q ∙ l)) ]
      ]
  Then-one old r s new other (inr (i, mid, f, h)) (inr (j, mid', g, k)) =
      elim (one old (Ok i) (Ok j) mid mid' f g) [
        | inl same ↦
            let index : i ≡ j = (let e = same.0 in cc) in
            let h' = subst (λ (m : ℕ). next m mid r new) index h in
            let h'' = subst (λ (m : List Place). next j m r new) same.1 h' in
            others j mid' r s new other h'' k
        | inr out ↦ elim out [ inl l ↦ absurd cc | inr l ↦ absurd cc ]
      ]

pub AddsClass-one : (name : List ℕ) → IsOne (AddsClass name)
AddsClass-one name = Then-one (Adds (Utf8 name)) (λ n. Adds (Class n)) (Adds-one (Utf8 name)) (λ n. Adds-one (Class n))

pub AddsNameAndType-one : (name descriptor : List ℕ) → IsOne (AddsNameAndType name descriptor)
AddsNameAndType-one name descriptor =
    Then-one (Adds (Utf8 name)) (λ n. Then (Adds (Utf8 descriptor)) (λ d. Adds (NameAndType n d))) (Adds-one (Utf8 name))
    (λ n. Then-one (Adds (Utf8 descriptor)) (λ d. Adds (NameAndType n d)) (Adds-one (Utf8 descriptor)) (λ d. Adds-one (NameAndType n d)))

pub AddsMember-one : (kind : MemberTag) (owner name descriptor : List ℕ) → IsOne (AddsMember kind owner name descriptor)
AddsMember-one kind owner name descriptor =
    Then-one (AddsClass owner) (λ class. Then (AddsNameAndType name descriptor) (λ member. Adds (member_of kind class member))) (AddsClass-one owner)
    (λ class. Then-one (AddsNameAndType name descriptor) (λ member. Adds (member_of kind class member)) (AddsNameAndType-one name descriptor) (λ member. Adds-one (member_of kind class member)))

-- where one answer is that the pool is full, each other one is that, or want of memory
pub full_too : (adds : Answers) → IsOne adds → (old : List Place) (r : Result ℕ PoolStop) (new : List Place) → adds old r new → (n : ℕ) (places : List Place) → adds old (Err (stops.Full n)) places
    → (r ≡ Err (stops.Full n)) ⊎ (r ≡ Err stops.Memory)
full_too adds one old r new h n places full =
    elim (one old r (Err (stops.Full n)) new places h full) [
      | inl same ↦ inl same.0
      | inr out ↦ elim out [ inl l ↦ inr l | inr l ↦ absurd cc ]
    ]
