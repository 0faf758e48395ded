use Rattle.std.proofs.Common.{ℕ, ◌<◌, ◌≤◌, List, length, Bool, true, false, IsTrue}
use Rattle.std.specs.Prelude.{MatchBool, slice_index}
use Rattle.std.specs.List.Sorted.{IsNonDecreasing}
use Rattle.std.proofs.lemmas.List.Sorted.{non_decreasing_from_is_sorted}
use Rattle.code_tests.proofs.code.rises.Goals as goal

never_falls : (Else : Type 0) (xs : List ℕ) (r : Bool) → MatchBool r (IsNonDecreasing xs) Else → IsTrue r → (i j : ℕ) → i ≤ j → j < length xs → slice_index xs i ≤ slice_index xs j
never_falls Else xs true h is = λ i j le lt. h i j 0 le lt
never_falls Else xs false h is = cc

pub returns : goal.returns
returns c = never_falls _ c.args.list.now c.is_sorted.result (non_decreasing_from_is_sorted c.args.list.now c.is_sorted.result c.is_sorted.ensures.cases)
