-- Serves private functions: instructions and blocks in a row, by references.
use Rattle.std.specs.Prelude.{◌≡◌, ℕ, suc, List, length, map}
use Rattle.je_instr.specs.declared.instr.Instr.{Instr}
use Rattle.je_instr.specs.declared.instr.Instr.TheVariants.{Goto}
use Rattle.je_instr.specs.declared.program.Handler.{Handler}
use Rattle.je_splice.specs.InstrCodes.{redirected}
use Rattle.je_splice.specs.Layout as layout
use Rattle.je_splice.specs.Marks.{Marks, arrive}
use Rattle.je_put.specs.declared.block.Block.{Block}
use Rattle.je_put.specs.declared.items.Item.{Item}
use Rattle.je_put.specs.declared.items.Item.TheVariants.{Jumps, Keeps, Puts}
use Rattle.je_put.specs.Parts.{Here}
use Rattle.je_put.specs.Placing.{completes}

-- the item, whose instruction has places as its targets
abbrev pub item_seen : Marks Block Handler → Item → layout.Item Instr Block
item_seen m (Jumps place) = layout.Keeps 0 (Goto place)
item_seen m (Keeps over instr) = layout.Keeps over (redirected (arrive m) instr.now)
item_seen m (Puts over block) = layout.Puts over block.now

abbrev pub items_seen : Marks Block Handler → List Item → List (layout.Item Instr Block)
items_seen m items = map (item_seen m) items

-- these are the marks' at an index, and so many entries are at the next one
pub record IsHere (m : Marks Block Handler) (i : ℕ) (h : Here) (behind : ℕ) : Type 0 where
  pub completes : m.completes ≡ completes
  pub entries : m.entries i ≡ map (λ put. put.piece) h.entries
  pub passed : m.passed i ≡ h.passed
  pub met : m.met i ≡ h.met
  pub instead : m.instead i ≡ h.instead
  pub next : length (m.entries (suc i)) ≡ behind
