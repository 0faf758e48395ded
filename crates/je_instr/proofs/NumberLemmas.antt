-- The number at an offset is the one that is spelled there.
use Rattle.std.proofs.Common.{◌≡◌, ℕ, ◌+◌, ◌<◌, ◌^◌, List, ◌++◌, length, get_or, ap, ◌∙◌, arith}
use Rattle.std.proofs.lemmas.List.{get_or-append-add}
use Rattle.std.proofs.lemmas.Nat.{from_be_bytes-to_be_bytes_2, from_be_bytes-to_be_bytes_4}
use Rattle.je_base.specs.Bytes.{u2, u4}
use Rattle.je_instr.specs.Forms.{u2_at, u4_at}

first_behind : (front xs : List ℕ) → get_or (front ++ xs) (length front) 0 ≡ get_or xs 0 0
first_behind front xs =
    let at : length front ≡ length front + 0 = omega arith in
    ap (λ (k : ℕ). get_or (front ++ xs) k 0) at ∙ get_or-append-add front xs 0 0

pub two_is : (front rest : List ℕ) (n : ℕ) → n < 2 ^ 16 → u2_at (front ++ (u2 n ++ rest)) (length front) ≡ n
unfolding u2_at
two_is front rest n fits =
    let xs = u2 n ++ rest in
    rw (first_behind front xs, get_or-append-add front xs 1 0) (from_be_bytes-to_be_bytes_2 n fits)

pub four_is : (front rest : List ℕ) (n : ℕ) → n < 2 ^ 32 → u4_at (front ++ (u4 n ++ rest)) (length front) ≡ n
unfolding u4_at
four_is front rest n fits =
    let xs = u4 n ++ rest in
    rw (first_behind front xs, get_or-append-add front xs 1 0, get_or-append-add front xs 2 0, get_or-append-add front xs 3 0) (from_be_bytes-to_be_bytes_4 n fits)
