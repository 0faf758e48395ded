-- Code and an exception table are a program or have a first fault: it cannot be that they do neither.
use Rattle.std.proofs.Common.{◌≡◌, ℕ, zero, suc, ◌+◌, ◌<◌, ◌≤◌, List, [], ◌∷◌, ◌++◌, length, Ok}
use Rattle.std.proofs.Common.{Err, refl, subst, arith, ◌⊎◌, inl, inr}
use Rattle.std.specs.List.{AllZip}
use Rattle.std.proofs.lemmas.Bool.{cases_lt}
use Rattle.je_consts.specs.declared.place.Place.{Place}
use Rattle.je_instr.specs.declared.fault.CodeFault.{CodeFault}
use Rattle.je_instr.specs.declared.fault.CodeFault.TheVariants.{BadOperand, BadTarget, BadRange}
use Rattle.je_instr.specs.declared.instr.Instr.{Instr}
use Rattle.je_instr.specs.declared.program.Decoded.{Decoded}
use Rattle.je_instr.specs.declared.program.Handler.{Handler}
use Rattle.je_instr.specs.declared.program.RawHandler.{RawHandler}
use Rattle.je_instr.specs.Allowed.{IsAllowed}
use Rattle.je_instr.specs.Forms.{Read, form_at}
use Rattle.je_instr.specs.Decoding.{Follow, IsStop, Leads, LeadsNowhere, IsFirstNowhere, IsEntry}
use Rattle.je_instr.specs.Decoding.{IsFirstNoEntry, Decodes, FirstFault, stops, nowhere, no_entry}
use Rattle.je_instr.proofs.EndLemmas.{form_within}
use Rattle.je_instr.proofs.FollowLemmas.{follow_more, as_many}
use Rattle.je_instr.proofs.DecodeLemmas.{decoded_is, decoded_made}

module _ (consts : List Place) (code : List ℕ) where
  -- neither do instructions stand up to the end, nor does one not stand
  module _ (whole : (is : List Instr) (os : List ℕ) → Follow consts code 0 is os (length code) → ⊥) (stop : (is : List Instr) (os : List ℕ) (at : ℕ) (f : CodeFault) → Follow consts code 0 is os at → at < length code → IsStop consts code at f → ⊥) where
    -- at an offset up to which instructions stand, where the same holds of each offset behind it
    step_none : (at : ℕ) (is : List Instr) (os : List ℕ) → at ≤ length code → Follow consts code 0 is os at
        → ((next : ℕ) (js : List Instr) (ps : List ℕ) → at < next → next ≤ length code → Follow consts code 0 js ps next → ⊥) → ⊥
    step_none at is os within h later = by_end (cases_lt at (length code)) where
      by_form : at < length code → (r : Read) → form_at code at ≡ r → ⊥
      by_form less (Err f) e = stop is os at f h less (inl e)
      by_form less (Ok (i, next)) e =
          let w = form_within code at i next e in
          let goes_on : IsAllowed consts i → ⊥ = λ allowed. later next (is ++ i ∷ []) (os ++ at ∷ []) w.grows w.within (follow_more consts code 0 is os at i next h (record { form = e; allowed = allowed })) in
          stop is os at (BadOperand at) h less (inr (i, next, e, goes_on, refl))

      by_end : (at < length code) ⊎ (length code ≤ at) → ⊥
      by_end (inl less) = by_form less (form_at code at) refl
      by_end (inr past) = whole is os (subst (λ (n : ℕ). Follow consts code 0 is os n) (omega (arith, past, within)) h)

    walk_none : (fuel at : ℕ) (is : List Instr) (os : List ℕ) → length code ≤ at + fuel → at ≤ length code → Follow consts code 0 is os at → ⊥
    walk_none zero at is os enough within h = whole is os (subst (λ (n : ℕ). Follow consts code 0 is os n) (omega (arith, enough, within)) h)
    walk_none (suc fuel) at is os enough within h = step_none at is os within h (λ next js ps grows inside k. walk_none fuel next js ps (omega (arith, grows, enough)) inside k)

module _ (starts : List ℕ) where
  leads_none : (ls : List Instr) (os : List ℕ) → length os ≡ length ls → ((is : List Instr) → AllZip (Leads starts) ls is → ⊥) → ((at : ℕ) → IsFirstNowhere starts ls os at → ⊥) → ⊥
  leads_none [] os long all first = all [] tt
  leads_none (l ∷ ls) [] long all first = omega (arith, long)
  leads_none (l ∷ ls) (o ∷ os) long all first =
      let none : LeadsNowhere starts l = λ i lead. leads_none ls os (omega (arith, long)) (λ is others. all (i ∷ is) (lead, others)) (λ at later. first at (inr (i, lead, later))) in
      first o (inl (none, refl))

module _ (consts : List Place) (starts : List ℕ) (size : ℕ) where
  entries_none : (table : List RawHandler) (from : ℕ) → ((hs : List Handler) → AllZip (IsEntry consts starts size) table hs → ⊥) → ((index : ℕ) → IsFirstNoEntry consts starts size table from index → ⊥) → ⊥
  entries_none [] from all first = all [] tt
  entries_none (raw ∷ table) from all first =
      let none : (g : Handler) → IsEntry consts starts size raw g → ⊥ = λ g entry. entries_none table (from + 1) (λ hs others. all (g ∷ hs) (entry, others)) (λ index later. first index (inr (g, entry, later))) in
      first from (inl (none, refl))

pub not_neither : (consts : List Place) (code : List ℕ) (table : List RawHandler) → ((d : Decoded) → Decodes consts code table d → ⊥) → ((f : CodeFault) → FirstFault consts code table f → ⊥) → ⊥
not_neither consts code table decodes fault = walk_none consts code by_targets by_stop (length code) 0 [] [] (omega arith) (omega arith) refl where
  by_stop : (is : List Instr) (os : List ℕ) (at : ℕ) (f : CodeFault) → Follow consts code 0 is os at → at < length code → IsStop consts code at f → ⊥
  by_stop is os at f h less stop = fault f (stops is os at f h less stop)

  by_entries : (ls : List Instr) (os : List ℕ) → Follow consts code 0 ls os (length code) → (is : List Instr) → AllZip (Leads os) ls is → ⊥
  by_entries ls os h is lead = entries_none consts os (length code) table 0
      (λ hs all. decodes (decoded_made is hs (os ++ length code ∷ [])) (decoded_is consts code table ls os h is hs lead all))
      (λ index first. fault (BadRange index) (no_entry ls is os index h lead first))

  by_targets : (ls : List Instr) (os : List ℕ) → Follow consts code 0 ls os (length code) → ⊥
  by_targets ls os h = leads_none os ls os (as_many consts code 0 ls os (length code) h) (by_entries ls os h) (λ at first. fault (BadTarget at) (nowhere ls os at h first))
