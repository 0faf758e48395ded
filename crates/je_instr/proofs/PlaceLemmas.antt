-- The instruction that begins at an offset, by the index that stands there.
use Rattle.std.proofs.Common.{◌≡◌, ℕ, ◌<◌, List, length, get_or, Some, ap, ◌∙◌, slice_get}
use Rattle.std.proofs.lemmas.Option.{slice_get_within, get_or_from_slice_get, slice_get-get_or}
use Rattle.je_instr.specs.Decoding.{Begins}
use Rattle.je_instr.specs.Indexing.{Places}

-- what is known of the index of the instruction at an offset
pub record IsPlaced (starts places : List ℕ) (offset k : ℕ) : Type 0 where
  pub within : offset < length places
  pub place : get_or places offset 0 ≡ k
  pub some : k < length starts
  pub start : get_or starts k 0 ≡ offset

pub placed : (starts places : List ℕ) (offset k : ℕ) → Places starts places → Begins starts offset k → IsPlaced starts places offset k
placed starts places offset k all b =
    let there : slice_get places offset ≡ Some k = all offset k b in
    record {
      within = slice_get_within places offset k there;
      place = get_or_from_slice_get places offset k 0 there;
      some = slice_get_within starts k offset b;
      start = get_or_from_slice_get starts k offset 0 b;
    }

pub begins : (starts : List ℕ) (offset k : ℕ) → k < length starts → get_or starts k 0 ≡ offset → Begins starts offset k
begins starts offset k lt e = slice_get-get_or starts k 0 lt ∙ ap (λ (n : ℕ). Some n) e
