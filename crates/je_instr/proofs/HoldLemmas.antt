-- What stands at an offset of code, and the numbers that are read there.
use Rattle.std.proofs.Common.{◌≡◌, ℕ, ◌+◌, ◌-◌, ◌%◌, ◌^◌, ◌<◌, ◌≤◌, List, [], ◌∷◌, ◌++◌, length}
use Rattle.std.proofs.Common.{get_or, ℤ, pos, ◌-ℤ◌, FitsSigned, ap, ◌∙◌, arith}
use Rattle.std.specs.Int.{w8, w16, w32, cast_signed, cast_unsigned}
use Rattle.std.proofs.lemmas.Int.{ints, to_z-of_z}
use Rattle.std.proofs.lemmas.List.{get_or-append-add, length-append, length-take}
use Rattle.std.proofs.Math.ListN.{get_or-append}
use Rattle.std.proofs.lemmas.Nat.{from_be_bytes-to_be_bytes_2, from_be_bytes-to_be_bytes_4}
use Rattle.je_base.specs.Bytes.{u2, u4}
use Rattle.je_instr.specs.Forms.{u1_at, u2_at, u4_at, s1_at, s2_at, s4_at, away, near, far, aligned}
use Rattle.je_instr.specs.Shortest.{s1, s2, s4, distance, padding}

-- the bytes of a part stand at an offset
pub record Holds (code : List ℕ) (at : ℕ) (part : List ℕ) : Type 0 where
  pub each : (k : ℕ) → k < length part → get_or code (at + k) 0 ≡ get_or part k 0
  pub within : at + length part ≤ length code

module _ (code : List ℕ) where
  pub holds_front : (at : ℕ) (a b : List ℕ) → Holds code at (a ++ b) → Holds code at a
  holds_front at a b h =
      let long = length-append a b in
      let within = h.within in
      record {
        each = λ k lt. h.each k (omega (arith, long, lt)) ∙ get_or-append a b 0 k lt;
        within = omega (arith, long, within);
      }

  pub holds_back : (at : ℕ) (a b : List ℕ) → Holds code at (a ++ b) → Holds code (at + length a) b
  holds_back at a b h =
      let long = length-append a b in
      let within = h.within in
      record {
        each = λ k lt. ap (λ (n : ℕ). get_or code n 0) (omega arith) ∙ h.each (length a + k) (omega (arith, long, lt)) ∙ get_or-append-add a b k 0;
        within = omega (arith, long, within);
      }

  pub byte_there : (at n : ℕ) (rest : List ℕ) → Holds code at (n ∷ rest) → u1_at code at ≡ n
  byte_there at n rest h = ap (λ (k : ℕ). get_or code k 0) (omega arith) ∙ h.each 0 (omega arith)

  pub holds_tail : (at n : ℕ) (rest : List ℕ) → Holds code at (n ∷ rest) → Holds code (at + 1) rest
  holds_tail at n rest h = holds_back at (n ∷ []) rest h

  pub two_there : (at n : ℕ) → n < 2 ^ 16 → Holds code at (u2 n) → u2_at code at ≡ n
  unfolding u2_at
  two_there at n lt h =
      let a : get_or code at 0 ≡ get_or (u2 n) 0 0 = ap (λ (k : ℕ). get_or code k 0) (omega arith) ∙ h.each 0 (omega arith) in
      let b : get_or code (at + 1) 0 ≡ get_or (u2 n) 1 0 = h.each 1 (omega arith) in
      rw (a, b) (from_be_bytes-to_be_bytes_2 n lt)

  pub four_there : (at n : ℕ) → n < 2 ^ 32 → Holds code at (u4 n) → u4_at code at ≡ n
  unfolding u4_at
  four_there at n lt h =
      let a : get_or code at 0 ≡ get_or (u4 n) 0 0 = ap (λ (k : ℕ). get_or code k 0) (omega arith) ∙ h.each 0 (omega arith) in
      let b : get_or code (at + 1) 0 ≡ get_or (u4 n) 1 0 = h.each 1 (omega arith) in
      let c : get_or code (at + 2) 0 ≡ get_or (u4 n) 2 0 = h.each 2 (omega arith) in
      let d : get_or code (at + 3) 0 ≡ get_or (u4 n) 3 0 = h.each 3 (omega arith) in
      rw (a, b, c, d) (from_be_bytes-to_be_bytes_4 n lt)

  -- ---- numbers with a sign

  pub signed_1_there : (at : ℕ) (z : ℤ) (rest : List ℕ) → FitsSigned w8 z → Holds code at (s1 z ++ rest) → s1_at code at ≡ z
  signed_1_there at z rest fits h = ap (cast_signed w8) (byte_there at (cast_unsigned w8 z) rest h) ∙ to_z-of_z w8 z fits

  pub signed_2_there : (at : ℕ) (z : ℤ) → FitsSigned w16 z → Holds code at (s2 z) → s2_at code at ≡ z
  signed_2_there at z fits h = ap (cast_signed w16) (two_there at (cast_unsigned w16 z) (bits_16 z fits) h) ∙ to_z-of_z w16 z fits where
    bits_16 : (z : ℤ) → FitsSigned w16 z → cast_unsigned w16 z < 2 ^ 16
    bits_16 z fits = omega (arith, ints)

  pub bits_32 : (z : ℤ) → FitsSigned w32 z → cast_unsigned w32 z < 2 ^ 32
  bits_32 z fits = omega (arith, ints)

  pub signed_4_there : (at : ℕ) (z : ℤ) → FitsSigned w32 z → Holds code at (s4 z) → s4_at code at ≡ z
  signed_4_there at z fits h = ap (cast_signed w32) (four_there at (cast_unsigned w32 z) (bits_32 z fits) h) ∙ to_z-of_z w32 z fits

-- ---- targets

away_is : (at offset : ℕ) → at < 2 ^ 16 → offset < 2 ^ 16 → away at (pos offset -ℤ pos at) ≡ offset
away_is at offset la lo = omega (arith, ints)

distance_fits : (at offset : ℕ) → at < 2 ^ 16 → offset < 2 ^ 16 → FitsSigned w32 (pos offset -ℤ pos at)
distance_fits at offset la lo = omega (arith, ints)

module _ (code offsets : List ℕ) (at target : ℕ) (la : at < 2 ^ 16) (lo : get_or offsets target 0 < 2 ^ 16) where
  pub near_there : (operand : ℕ) → FitsSigned w16 (distance offsets at target) → Holds code operand (s2 (distance offsets at target)) → near code at operand ≡ get_or offsets target 0
  unfolding near distance
  near_there operand fits h = ap (away at) (signed_2_there code operand (distance offsets at target) fits h) ∙ away_is at (get_or offsets target 0) la lo

  pub far_there : (operand : ℕ) → Holds code operand (s4 (distance offsets at target)) → far code at operand ≡ get_or offsets target 0
  unfolding far distance
  far_there operand h =
      let fits = distance_fits at (get_or offsets target 0) la lo in
      ap (λ (n : ℕ). (at + n) % 2 ^ 32) (four_there code operand (cast_unsigned w32 (distance offsets at target)) (bits_32 code (distance offsets at target) fits) h) ∙ away_is at (get_or offsets target 0) la lo

-- the operands of a switch stand behind the padding
pub behind_padding : (at : ℕ) → at + 1 + length (padding at) ≡ aligned at
behind_padding at = let long = length-take {A = ℕ} (3 - at % 4) (0 ∷ 0 ∷ 0 ∷ []) in omega (arith, long)
