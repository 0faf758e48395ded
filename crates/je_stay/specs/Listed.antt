-- Pieces that are given as lists, and keep to the shapes of their indexes.
use Rattle.std.specs.Prelude.{ℕ, suc, List, Bool, not, ◌&&◌, IsTrue}
use Rattle.std.specs.List.{AllByRecursion}
use Rattle.je_machine.specs.Operation.{Handler}
use Rattle.je_shape.specs.Least.{Method, Assignment}
use Rattle.je_splice.specs.Reference.{Means}
use Rattle.je_splice.specs.Laid.{Fragment}
use Rattle.je_splice.specs.Put.{PutAt, PutBefore}
use Rattle.je_stay.specs.Marked.{KeepsAt, if_leads, FitsPiece}

-- What stands in the place of an instruction leads to the next index, if it may lead on. What
-- stands before one, which it does where the instruction stays or jumps pass by, leads to it.
pub record PutKeeps (m : Method) (x : Assignment) (completes : Fragment → Bool)
    (put : PutAt Fragment) : Type 0 where
  pub instead : IsTrue put.removed
      → KeepsAt m x put.at (if_leads (completes put.piece) (x (suc put.at)))
      (Means put.piece.meaning)
  pub before : IsTrue (not (put.removed && put.jumps))
      → KeepsAt m x put.at (x put.at) (Means put.piece.meaning)

-- what is in the way of handlers leads to their target, if it may lead on
abbrev pub BeforeKeeps : Method → Assignment → (Fragment → Bool) → PutBefore Fragment Handler
    → Type 0
BeforeKeeps m x completes put =
    KeepsAt m x put.target (if_leads (completes put.piece) (x put.target))
    (Means put.piece.meaning)

-- each piece of the lists keeps to the shapes
pub record ListsKeep (m : Method) (x : Assignment) (completes : Fragment → Bool)
    (puts : List (PutAt Fragment)) (befores : List (PutBefore Fragment Handler)) : Type 0 where
  pub places : AllByRecursion (PutKeeps m x completes) puts
  pub entries : AllByRecursion (BeforeKeeps m x completes) befores

-- the block of each does what is meant with each frame that has the shape of its index
pub record ListsFit (limit : ℕ) (x : Assignment) (puts : List (PutAt Fragment))
    (befores : List (PutBefore Fragment Handler)) : Type 0 where
  pub places : AllByRecursion (λ (put : PutAt Fragment). FitsPiece limit (x put.at) put.piece)
      puts
  pub entries : AllByRecursion
      (λ (put : PutBefore Fragment Handler). FitsPiece limit (x put.target) put.piece) befores
