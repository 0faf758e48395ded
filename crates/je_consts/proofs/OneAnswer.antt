-- Bytes are one constant pool or have one first fault, and there is one of them.
use Rattle.std.proofs.Common.{◌≡◌, ℕ, zero, suc, ◌+◌, ◌≤◌, ◌<◌, ◌⊎◌, Bool, true, false, eqb, List, length, Ok, Err, Option, Some, IsSomeAnd, IfSome, refl, ap, ◌∙◌, arith, inl, inr}
use Rattle.std.specs.List.{AllByRecursion}
use Rattle.std.proofs.lemmas.Bool.{cases_lt, eqb-true, eqb-false}
use Rattle.je_consts.specs.declared.constant.Const.{Const}
use Rattle.je_consts.specs.declared.constant.Const.TheVariants.{Utf8, Integer, Float, Long, Double, Class, Str, Field, Method, InterfaceMethod, NameAndType, MethodHandle, MethodType, InvokeDynamic}
use Rattle.je_consts.specs.declared.fault.ConstFault.{ConstFault}
use Rattle.je_consts.specs.declared.fault.ConstFault.TheVariants.{BadConst}
use Rattle.je_consts.specs.declared.place.Place.{Place}
use Rattle.je_consts.specs.Faults.{FirstFault}
use Rattle.je_consts.specs.Layout.{IsPoolAt}
use Rattle.je_consts.specs.Pool.{const_at, tag_at, IsMemberTag, Names, OfEntry, IsLeastMisfit}
use Rattle.je_consts.specs.Reading.{spelled_at}
use Rattle.je_base.specs.Parts.{OneWay}
use Rattle.je_consts.specs.EntryParts.{entry_format}
use Rattle.je_consts.proofs.FieldLemmas.{IsBytes}
use Rattle.je_consts.proofs.ExactLemmas.{comes_as}
use Rattle.je_consts.proofs.FaultLemmas.{pool_fault}
use Rattle.je_consts.proofs.Misfits.{below_next, all_by_indexes}
use Rattle.je_consts.proofs.PlaceLemmas.{Whole, PoolComes, spelled_comes}
use Rattle.je_consts.proofs.ReadLemmas.{pool_comes, found, misfit_first, same_pool, same_fault, same_misfit, no_fault}

module _ (way : OneWay entry_format) (bytes : List ℕ) (at : ℕ) where
  pub one_pool : (end other : ℕ) (places others : List Place) → IsPoolAt bytes at end places → IsPoolAt bytes at other others → (places ≡ others) × (end ≡ other)
  one_pool end other places others h k =
      let same = same_pool bytes at way (places, end) (pool_comes bytes at end places h) others other k in
      (ap (λ (r : List Place × ℕ). r.0) same, ap (λ (r : List Place × ℕ). r.1) same)

  pub pool_no_fault : (end : ℕ) (places : List Place) (d : ConstFault) → IsPoolAt bytes at end places → FirstFault bytes at d → ⊥
  pool_no_fault end places d h first = no_fault bytes at way d first (places, end) (pool_comes bytes at end places h) h.spelled.pool.names

  pub one_fault : (d e : ConstFault) → FirstFault bytes at d → FirstFault bytes at e → d ≡ e
  one_fault d e f g =
      elim (comes_as bytes at d f) [
        | inl p ↦ same_fault bytes at way e g d p
        | inr q ↦ q.4 ∙ same_misfit bytes at way e g q.0 q.1 q.2 q.3
      ]

-- ---- one of them there is

abbrev Decided : Type 0 → Type 0
Decided A = A ⊎ (A → ⊥)

both : {A B : Type 0} → Decided A → Decided B → Decided (A × B)
both (inl a) (inl b) = inl (a, b)
both (inl a) (inr b) = inr (λ p. b p.1)
both (inr a) q = inr (λ p. a p.0)

tag_by : (k t : ℕ) (b : Bool) → eqb k t ≡ b → Decided (Some k ≡ Some t)
tag_by k t true e = inl (ap (λ (n : ℕ). Some n) (eqb-true k t e))
tag_by k t false e = inr (λ h. let same : k ≡ t = cc in eqb-false k t e same)

has_tag : (o : Option ℕ) (t : ℕ) → Decided (o ≡ Some t)
has_tag (Some k) t = tag_by k t (eqb k t) refl
has_tag _ t = inr (λ h. cc)

has_member_tag : (o : Option ℕ) → Decided (IsSomeAnd o IsMemberTag)
has_member_tag (Some t) =
    elim (cases_lt t 9) [
      | inl lt ↦ inr (λ h. omega arith)
      | inr le ↦ elim (cases_lt 11 t) [ inl lt ↦ inr (λ h. omega arith) | inr le' ↦ inl (omega arith, omega arith) ]
    ]
has_member_tag _ = inr (λ h. h)

names : (places : List Place) (c : Const) → Decided (Names places c)
names places (Utf8 text) = inl tt
names places (Integer n) = inl tt
names places (Float bits) = inl tt
names places (Long n) = inl tt
names places (Double bits) = inl tt
names places (Class name) = has_tag (tag_at places name) 1
names places (Str text) = has_tag (tag_at places text) 1
names places (Field class member) = both (has_tag (tag_at places class) 7) (has_tag (tag_at places member) 12)
names places (Method class member) = both (has_tag (tag_at places class) 7) (has_tag (tag_at places member) 12)
names places (InterfaceMethod class member) = both (has_tag (tag_at places class) 7) (has_tag (tag_at places member) 12)
names places (NameAndType name descriptor) = both (has_tag (tag_at places name) 1) (has_tag (tag_at places descriptor) 1)
names places (MethodHandle kind member) = has_member_tag (tag_at places member)
names places (MethodType descriptor) = has_tag (tag_at places descriptor) 1
names places (InvokeDynamic bootstrap member) = has_tag (tag_at places member) 12

module _ (places : List Place) where
  entry_names : (o : Option Const) → IfSome o (Names places) ⊎ IsSomeAnd o (λ c. Names places c → ⊥)
  entry_names (Some c) = names places c
  entry_names _ = inl tt

  -- all of so many indexes name what they have to, or there is a least one that does not
  least_below : (n : ℕ) → ((i : ℕ) → i < n → IfSome (const_at places i) (Names places)) ⊎ ((index : ℕ) × IsLeastMisfit places index)
  least_below zero = inl (λ i lt. absurd (omega arith))
  least_below (suc n) =
      elim (least_below n) [
        | inr some ↦ inr some
        | inl below ↦ elim (entry_names (const_at places n)) [
          | inl holds ↦ inl (λ i lt. below_next (Names places) places n below holds i (omega arith))
          | inr fails ↦ inr (n, record { misfit = fails; before = below })
        ]
      ]

  all_or_least : AllByRecursion (OfEntry (Names places)) places ⊎ ((index : ℕ) × IsLeastMisfit places index)
  all_or_least = elim (least_below (length places + 1)) [ inl all ↦ inl (all_by_indexes (Names places) places all) | inr some ↦ inr some ]

abbrev Answer : List ℕ → ℕ → Type 0
Answer bytes at = ((places : List Place) × (end : ℕ) × IsPoolAt bytes at end places) ⊎ ((d : ConstFault) × FirstFault bytes at d)

answer_by : (bytes : List ℕ) (at : ℕ) → at ≤ length bytes → (r : Whole) → PoolComes bytes at r → Answer bytes at
answer_by bytes at within (Err d) h = inr (d, pool_fault bytes at d h)
answer_by bytes at within (Ok x) h =
    elim (all_or_least x.0) [
      | inl all ↦ inl (x.0, x.1, found bytes at x within h all)
      | inr least ↦ inr (BadConst least.0, misfit_first bytes at x least.0 h least.1)
    ]

pub some_answer : (bytes : List ℕ) (at : ℕ) → IsBytes bytes → at ≤ length bytes → Answer bytes at
some_answer bytes at fits within = answer_by bytes at within (spelled_at bytes at) (spelled_comes bytes fits at (spelled_at bytes at) refl)
