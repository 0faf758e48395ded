-- The numbers at the edges of int and long, and what the instructions on them give (JVMS 6.5).
use Rattle.std.specs.Prelude.{ℕ, ℤ, pos, neg_ℤ, List, [], ◌∷◌, map, Option, Some}
use Rattle.je_machine.specs.Value.{Value}
use Rattle.je_machine.specs.Calculation.{Calculation, calculate}

abbrev pub minus : ℕ → ℤ
minus n = neg_ℤ (pos n)

abbrev pub int_edges : List ℤ
int_edges =
    pos 0 ∷ pos 1 ∷ minus 1 ∷ pos 2 ∷ minus 2 ∷ pos 7 ∷ minus 7 ∷ pos 127 ∷ pos 128 ∷ pos 255 ∷
    pos 256 ∷ pos 32767 ∷ pos 32768 ∷ pos 65535 ∷ pos 65536 ∷ minus 2147483648 ∷ minus 2147483647 ∷
    pos 2147483646 ∷ pos 2147483647 ∷ []

-- a divisor is not 0
abbrev pub int_divisors : List ℤ
int_divisors =
    pos 1 ∷ minus 1 ∷ pos 2 ∷ minus 2 ∷ pos 7 ∷ minus 7 ∷ pos 127 ∷ pos 128 ∷ pos 255 ∷ pos 256 ∷
    pos 32767 ∷ pos 32768 ∷ pos 65535 ∷ pos 65536 ∷ minus 2147483648 ∷ minus 2147483647 ∷
    pos 2147483646 ∷ pos 2147483647 ∷ []

-- by how much ints and longs are shifted
abbrev pub distances : List ℤ
distances =
    pos 0 ∷ pos 1 ∷ pos 31 ∷ pos 32 ∷ pos 33 ∷ pos 63 ∷ pos 64 ∷ minus 1 ∷ []

abbrev pub long_edges : List ℤ
long_edges =
    pos 0 ∷ pos 1 ∷ minus 1 ∷ pos 2 ∷ minus 2 ∷ pos 7 ∷ minus 7 ∷ pos 65536 ∷ pos 2147483647 ∷
    pos 2147483648 ∷ minus 2147483648 ∷ minus 2147483649 ∷ pos 4294967295 ∷ pos 4294967296 ∷
    minus 4294967297 ∷ minus 9223372036854775808 ∷ minus 9223372036854775807 ∷
    pos 9223372036854775806 ∷ pos 9223372036854775807 ∷ []

abbrev pub long_divisors : List ℤ
long_divisors =
    pos 1 ∷ minus 1 ∷ pos 2 ∷ minus 2 ∷ pos 7 ∷ minus 7 ∷ pos 65536 ∷ pos 2147483647 ∷
    pos 2147483648 ∷ minus 2147483648 ∷ minus 2147483649 ∷ pos 4294967295 ∷ pos 4294967296 ∷
    minus 4294967297 ∷ minus 9223372036854775808 ∷ minus 9223372036854775807 ∷
    pos 9223372036854775806 ∷ pos 9223372036854775807 ∷ []

-- each number with what is computed of it
abbrev pub of_one : Calculation → (ℤ → Value) → List ℤ → List (ℤ × Option Value)
of_one c value xs = map (λ x. (x, calculate c (value x ∷ []))) xs

-- each first number with what is computed of it and each second one
abbrev pub of_two : Calculation → (ℤ → Value) → (ℤ → Value) → List ℤ → List ℤ
    → List (ℤ × List (Option Value))
of_two c first second xs ys =
    map (λ x. (x, map (λ y. calculate c (first x ∷ second y ∷ [])) ys)) xs

-- a first number with the results for the second ones in their order
abbrev pub with_each : ℤ → List ℤ → ℤ × List ℤ
with_each x results = (x, results)

-- a table of numbers with their results
abbrev pub given : (ℤ → Value) → List (ℤ × ℤ) → List (ℤ × Option Value)
given value table = map (λ row. (row.0, Some (value row.1))) table

-- a table of first numbers, each with its results
abbrev pub given_each : (ℤ → Value) → List (ℤ × List ℤ) → List (ℤ × List (Option Value))
given_each value table = map (λ row. (row.0, map (λ n. Some (value n)) row.1)) table
