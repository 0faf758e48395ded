-- The cases of switches, one by one.
use Rattle.std.proofs.Common.{◌≡◌, ℕ, suc, List, [], ◌∷◌, ◌++◌, ℤ, pos, ◌+ℤ◌, append_assoc, arith}
use Rattle.std.proofs.lemmas.Int.{ints}
use Rattle.je_instr.specs.Resolves.{table_cases}

pub one_case : (cases new all : List (ℤ × ℕ)) (key next : ℤ) (rest tail : List ℕ) (target : ℕ) → rest ≡ target ∷ tail → next ≡ key +ℤ pos 1 → new ≡ cases ++ (key, target) ∷ [] → cases ++ table_cases key rest ≡ all → new ++ table_cases next tail ≡ all
one_case cases new all key next rest tail target split more pushed so_far =
    let before = rw split at so_far in
    rw (pushed, more, append_assoc) before

pub one_key : (key next low : ℤ) (n m t : ℕ) → n ≡ suc m → next ≡ key +ℤ pos 1 → key +ℤ pos n ≡ low +ℤ pos t → next +ℤ pos m ≡ low +ℤ pos t
one_key key next low n m t less more so_far = omega (arith, ints)
