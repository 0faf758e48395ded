-- The offsets of instructions that stand one behind the other rise, up to that of the end.
use Rattle.std.proofs.Common.{◌≡◌, ℕ, zero, suc, ◌+◌, ◌<◌, ◌≤◌, List, [], ◌∷◌, ◌++◌, length, get_or}
use Rattle.std.proofs.Common.{refl, sym, ap, ◌∙◌, subst, length-append, arith}
use Rattle.std.specs.List.{AllZip}
use Rattle.std.proofs.lemmas.List.{get_or_at}
use Rattle.je_consts.specs.declared.place.Place.{Place}
use Rattle.je_instr.specs.declared.instr.Instr.{Instr}
use Rattle.je_instr.specs.declared.program.Decoded.{Decoded}
use Rattle.je_instr.specs.declared.program.RawHandler.{RawHandler}
use Rattle.je_instr.specs.Decoding.{Follow, Leads, Decodes}
use Rattle.je_instr.proofs.EndLemmas.{form_within}
use Rattle.je_instr.proofs.FollowLemmas.{as_many}

as_long : {A B : Type 0} (R : A → B → Type 0) (xs : List A) (ys : List B) → AllZip R xs ys → length xs ≡ length ys
as_long R [] [] h = refl
as_long R (x ∷ xs) (y ∷ ys) h = ap suc (as_long R xs ys h.1)
as_long R [] (y ∷ ys) h = absurd h
as_long R (x ∷ xs) [] h = absurd h

module _ (consts : List Place) (code : List ℕ) where
  abbrev all : List ℕ → ℕ → List ℕ
  all os end = os ++ end ∷ []

  not_before : (at : ℕ) (is : List Instr) (os : List ℕ) (end k : ℕ) → Follow consts code at is os end → k < length (all os end) → at ≤ get_or (all os end) k 0
  not_before at [] [] end zero h lt = omega (arith, h)
  not_before at [] [] end (suc k) h lt = absurd (omega (arith, lt))
  not_before at (i ∷ is) (p ∷ os) end zero h lt = omega (arith, h.0)
  not_before at (i ∷ is) (p ∷ os) end (suc k) h lt =
      let w = (form_within code at i h.1 h.2.form).grows in
      let rest = not_before h.1 is os end k h.3 (omega (arith, lt)) in
      omega (arith, w, rest)
  not_before at [] (p ∷ os) end k h lt = absurd h
  not_before at (i ∷ is) [] end k h lt = absurd h

  rises : (at : ℕ) (is : List Instr) (os : List ℕ) (end i j : ℕ) → Follow consts code at is os end → i < j → j < length (all os end) → get_or (all os end) i 0 < get_or (all os end) j 0
  rises at is os end i zero h less lt = absurd (omega (arith, less))
  rises at [] [] end i (suc j) h less lt = absurd (omega (arith, lt))
  rises at (s ∷ is) (p ∷ os) end zero (suc j) h less lt =
      let w = (form_within code at s h.1 h.2.form).grows in
      let rest = not_before h.1 is os end j h.3 (omega (arith, lt)) in
      omega (arith, h.0, w, rest)
  rises at (s ∷ is) (p ∷ os) end (suc i) (suc j) h less lt = rises h.1 is os end i j h.3 (omega (arith, less)) (omega (arith, lt))
  rises at [] (p ∷ os) end i (suc j) h less lt = absurd h
  rises at (s ∷ is) [] end i (suc j) h less lt = absurd h

  module _ (table : List RawHandler) (d : Decoded) (h : Decodes consts code table d) where
    starts_many : length h.starts ≡ length d.program.instrs
    starts_many = as_many consts code 0 h.located h.starts (length code) h.follow ∙ as_long (Leads h.starts) h.located d.program.instrs h.instrs

    pub offsets_count : length d.offsets ≡ length d.program.instrs + 1
    offsets_count = omega (arith, ap length h.offsets, length-append h.starts (length code ∷ []), starts_many)

    pub offsets_rise : (i j : ℕ) → i < j → j < length d.offsets → get_or d.offsets i 0 < get_or d.offsets j 0
    offsets_rise i j less lt =
        let P : List ℕ → Type 0 = λ os. j < length os → get_or os i 0 < get_or os j 0 in
        subst P (sym h.offsets) (rises 0 h.located h.starts (length code) i j h.follow less) lt

    pub offsets_last : get_or d.offsets (length d.program.instrs) 0 ≡ length code
    offsets_last = ap (λ (os : List ℕ). get_or os (length d.program.instrs) 0) h.offsets ∙ get_or_at h.starts (length code) [] 0 (length d.program.instrs) starts_many
