-- Serves private functions alone: the index by which an add finds the entries that are there.
use Rattle.std.specs.Prelude.{◌≡◌, ℕ, List, Option, Some, None}
use Rattle.indexmap.specs.IndexMap.{get}
use Rattle.je_consts.specs.contracts.constant.ConstPartialEq.TheImpl as block
use Rattle.je_consts.specs.declared.constant.Const.{Const}
use Rattle.je_consts.specs.declared.index.Index.{Index}
use Rattle.je_consts.specs.declared.place.Place.{Place}
use Rattle.je_consts.specs.Adding.{IsMissing, IsLeastIndex}

-- what the index answers for an entry
abbrev pub answer : Index → Const → Option ℕ
answer index c = get block.ghosts.eq index.least c

-- for each entry its least index among the places, and none where none holds it
pub record Finds (places : List Place) (found : Const → Option ℕ) : Type 0 where
  pub least : (c : Const) (i : ℕ) → found c ≡ Some i → IsLeastIndex places c i
  pub missing : (c : Const) → found c ≡ None → IsMissing places c

abbrev pub IsIndexOf : List Place → Index → Type 0
IsIndexOf places index = Finds places (answer index)
