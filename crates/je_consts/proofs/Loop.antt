-- Reading places one after the other, as a loop does.
use Rattle.std.proofs.Common.{◌≡◌, ℕ, suc, ◌-◌, ◌+◌, ◌≤◌, ◌<◌, Bool, true, false, List, [], ◌∷◌, ◌++◌, Result, Ok, Err, refl, sym, ap, ◌∙◌, append_assoc, arith}
use Rattle.std.proofs.lemmas.List.{append-nil}
use Rattle.je_consts.specs.declared.fault.ConstFault.{ConstFault}
use Rattle.je_consts.specs.declared.fault.ConstFault.TheVariants as faults
use Rattle.je_consts.specs.declared.place.Place.{Place}
use Rattle.je_consts.specs.Pool.{leads_second}
use Rattle.je_consts.specs.Reading.{◌>>=◌, Fails, place_at, places_at}

abbrev pub Read : Type 0
Read = Result (List Place × ℕ) ConstFault

-- what was read before, and what is still read
abbrev pub with_front : List Place → Read → Read
with_front front read = read >>= λ x. Ok (front ++ x.0, x.1)

with_front-cons : (front : List Place) (place : Place) (read : Read) → with_front front (read >>= λ x. Ok (place ∷ x.0, x.1)) ≡ with_front (front ++ place ∷ []) read
with_front-cons front place (Ok x) = ap (λ (places : List Place). Ok (places, x.1)) (simp append_assoc)
with_front-cons front place (Err e) = refl

module _ (front : List Place) (wide : Bool) (count index : ℕ) (bytes : List ℕ) (at : ℕ) (total : Read) where
  pub goes_on : (place : Place) (after : ℕ) → index < count → place_at wide index bytes at ≡ Ok (place, after) → with_front front (places_at wide (count - index) index bytes at) ≡ total
      → with_front (front ++ place ∷ []) (places_at (leads_second place) (count - (index + 1)) (index + 1) bytes after) ≡ total
  unfolding places_at
  goes_on place after lt h so_far =
      let k : count - index ≡ suc (count - (index + 1)) = omega arith in
      let one : with_front front (places_at wide (count - index) index bytes at) ≡ with_front (front ++ place ∷ []) (places_at (leads_second place) (count - (index + 1)) (index + 1) bytes after) = rw (k, h) (with_front-cons front place (places_at (leads_second place) (count - (index + 1)) (index + 1) bytes after)) in
      sym one ∙ so_far

  ends_by : (e : ConstFault) → index < count → place_at wide index bytes at ≡ Err e → with_front front (places_at wide (count - index) index bytes at) ≡ total → total ≡ Err e
  unfolding places_at
  ends_by e lt h so_far =
      let k : count - index ≡ suc (count - (index + 1)) = omega arith in
      let one : with_front front (places_at wide (count - index) index bytes at) ≡ Err e = rw (k, h) refl in
      sym so_far ∙ one

  pub ends : (e : ConstFault) → index < count → Fails e (place_at wide index bytes at) → with_front front (places_at wide (count - index) index bytes at) ≡ total → Fails e total
  ends faults.Memory lt h so_far = tt
  ends (faults.Truncated o) lt h so_far = ends_by (faults.Truncated o) lt h so_far
  ends (faults.BadConst i) lt h so_far = ends_by (faults.BadConst i) lt h so_far

-- all places are read
pub is_done : (front : List Place) (count index : ℕ) (bytes : List ℕ) (at : ℕ) (total : Read) → count ≤ index → with_front front (places_at false (count - index) index bytes at) ≡ total → total ≡ Ok (front, at)
unfolding places_at
is_done front count index bytes at total le so_far =
    let k : count - index ≡ 0 = omega arith in
    let one : with_front front (places_at false (count - index) index bytes at) ≡ Ok (front, at) = rw k (ap (λ (places : List Place). Ok (places, at)) (append-nil front)) in
    sym so_far ∙ one

-- the last one lacks its second index
pub is_cut : (front : List Place) (count index : ℕ) (bytes : List ℕ) (at : ℕ) (total : Read) → count ≡ index → with_front front (places_at true (count - index) index bytes at) ≡ total → total ≡ Err (faults.BadConst (count - 1))
unfolding places_at
is_cut front count index bytes at total e so_far =
    let k : count - index ≡ 0 = omega arith in
    let one : with_front front (places_at true (count - index) index bytes at) ≡ Err (faults.BadConst (count - 1)) = rw (k, e) refl in
    sym so_far ∙ one
