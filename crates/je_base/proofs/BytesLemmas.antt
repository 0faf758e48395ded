-- Numbers and runs that stand at an offset.
use Rattle.std.proofs.Common.{◌≡◌, ℕ, ◌+◌, ◌<◌, ◌≤◌, List, ◌++◌, length, get_or, take, drop, sym, ap, ◌∙◌, arith, refl, inl, inr}
use Rattle.std.specs.Int.{w16, w32, w64, from_be_bytes}
use Rattle.std.proofs.lemmas.Bool.{cases_lt}
use Rattle.std.proofs.lemmas.List.{take_at, drop-drop, take-append-drop, length-append, length-take, get_or-drop, get_or-take, get_or_past}
use Rattle.std.proofs.lemmas.Nat.{be_bytes_4, be_bytes_8, from_be_bytes-to_be_bytes_2, from_be_bytes-to_be_bytes_4, from_be_bytes-to_be_bytes_8}
use Rattle.je_base.specs.Bytes.{u4, u8, IsThere, OneReading}

-- ---- what was read stands there

-- the numbers of the list are bytes
abbrev IsBytes : List ℕ → Type 0
IsBytes bytes = (i : ℕ) → get_or bytes i 0 < 256

front_fits : (n at : ℕ) (bytes : List ℕ) → IsBytes bytes → IsBytes (take n (drop at bytes))
front_fits n at bytes fits i =
    elim (cases_lt i n) [
      | inl lt ↦ rw (get_or-take n (drop at bytes) i 0 lt, get_or-drop) (fits (at + i))
      | inr le ↦ rw (get_or_past (take n (drop at bytes)) i 0 (omega (arith, length-take n (drop at bytes)))) (omega arith)
    ]

-- the front of what is left
front_there : (bytes part : List ℕ) (at n : ℕ) → part ≡ take n (drop at bytes) → n ≡ length part → IsThere bytes at part
front_there bytes part at n front len =
    sym (take-append-drop n (drop at bytes)) ∙ ap (λ (t : List ℕ). t ++ drop n (drop at bytes)) (sym front)
    ∙ ap (λ (t : List ℕ). part ++ t) (drop-drop n at bytes ∙ ap (λ (k : ℕ). drop (at + k) bytes) len)

module _ (bytes : List ℕ) (at n : ℕ) where
  pub there_4 : 4 ≤ length (drop at bytes) → IsBytes bytes → n ≡ from_be_bytes w32 (take 4 (drop at bytes)) → IsThere bytes at (u4 n)
  there_4 long fits e =
      front_there bytes (u4 n) at 4 (be_bytes_4 (take 4 (drop at bytes)) n (omega (arith, length-take 4 (drop at bytes))) (front_fits 4 at bytes fits) e) refl

  pub there_8 : 8 ≤ length (drop at bytes) → IsBytes bytes → n ≡ from_be_bytes w64 (take 8 (drop at bytes)) → IsThere bytes at (u8 n)
  there_8 long fits e =
      front_there bytes (u8 n) at 8 (be_bytes_8 (take 8 (drop at bytes)) n (omega (arith, length-take 8 (drop at bytes))) (front_fits 8 at bytes fits) e) refl

-- ---- what stands there is one

whole : (bytes run : List ℕ) (at : ℕ) → IsThere bytes at run → length run ≤ length (drop at bytes)
whole bytes run at there = omega (arith, ap length there, length-append run (drop (at + length run) bytes))

front_is : (bytes run : List ℕ) (at n : ℕ) → length run ≡ n → IsThere bytes at run → take n (drop at bytes) ≡ run
front_is bytes run at n len there = ap (take n) there ∙ take_at run (drop (at + length run) bytes) n len

pub one_reading : OneReading
one_reading = record {
  two = λ m n lm ln e. sym (from_be_bytes-to_be_bytes_2 m lm) ∙ ap (from_be_bytes w16) e ∙ from_be_bytes-to_be_bytes_2 n ln;
  four = λ m n lm ln e. sym (from_be_bytes-to_be_bytes_4 m lm) ∙ ap (from_be_bytes w32) e ∙ from_be_bytes-to_be_bytes_4 n ln;
  eight = λ m n lm ln e. sym (from_be_bytes-to_be_bytes_8 m lm) ∙ ap (from_be_bytes w64) e ∙ from_be_bytes-to_be_bytes_8 n ln;
  run = λ bytes run other at len there also. sym (front_is bytes run at (length other) len there) ∙ front_is bytes other at (length other) refl also;
  whole = whole;
}
