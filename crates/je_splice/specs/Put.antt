-- Marks from lists of what is put, in the order in which it is given.
use Rattle.std.specs.Prelude.{◌≡◌, ℕ, suc, List, [], ◌∷◌, map, filter, find, Option, Some, None}
use Rattle.std.specs.Prelude.{option_map, option_and_then, slice_get, Bool, true, not, ◌&&◌, nat_eq}
use Rattle.std.specs.List.{position}
use Rattle.je_splice.specs.Marks.{Marks}

-- A piece at the index of an instruction, in whose place it stands where that is removed, and else
-- before it. Jumps to the index meet it or pass by.
pub record PutAt (X : Type 0) : Type 0 where
  pub at : ℕ
  pub removed : Bool
  pub jumps : Bool
  pub piece : X

-- a piece in the way of entries of the exception table that lead to a target
pub record PutBefore (X H : Type 0) : Type 0 where
  pub target : ℕ
  pub meets : H → Bool
  pub piece : X

abbrev pub is_passed : {X : Type 0} → ℕ → PutAt X → Bool
is_passed i put = nat_eq put.at i && not put.jumps

abbrev pub is_met : {X : Type 0} → ℕ → PutAt X → Bool
is_met i put = nat_eq put.at i && (put.jumps && not put.removed)

abbrev pub is_instead : {X : Type 0} → ℕ → PutAt X → Bool
is_instead i put = nat_eq put.at i && put.removed

abbrev pub leads_to : {X H : Type 0} → ℕ → PutBefore X H → Bool
leads_to i put = nat_eq put.target i

-- by where entries lead, and whether a piece may lead to what is behind it
abbrev pub marks_of : {X H : Type 0} → (H → ℕ) → (X → Bool) → List (PutAt X)
    → List (PutBefore X H) → Marks X H
marks_of target_of completes places entries =
    record {
      entries = λ i. map (λ put. put.piece) (filter (leads_to i) entries);
      passed = λ i. map (λ put. put.piece) (filter (is_passed i) places);
      met = λ i. map (λ put. put.piece) (filter (is_met i) places);
      instead = λ i. option_map (λ put. put.piece) (find (is_instead i) places);
      entry_of = λ h. position (λ put. put.meets h) (filter (leads_to (target_of h)) entries);
      completes = completes;
    }

-- it stands in the place of an instruction, and jumps meet it
pub record StandsInstead {X : Type 0} (put : PutAt X) : Type 0 where
  pub removed : put.removed ≡ true
  pub jumps : put.jumps ≡ true

-- From a choice for each index on: what is chosen there stands in the place of the instruction.
abbrev pub replacements : {X : Type 0} → ℕ → List (Option X) → List (PutAt X)
replacements i [] = []
replacements i (None ∷ choices) = replacements (suc i) choices
replacements i (Some x ∷ choices) =
    record { at = i; removed = true; jumps = true; piece = x } ∷ replacements (suc i) choices

-- what is chosen at an index, if there is one
abbrev pub chosen_at : {X : Type 0} → List (Option X) → ℕ → Option X
chosen_at choices i = option_and_then (λ choice. choice) (slice_get choices i)
