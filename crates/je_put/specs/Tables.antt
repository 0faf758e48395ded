-- Serves private functions: where places begin, and tables of it by index.
use Rattle.std.specs.Prelude.{◌≡◌, ℕ, suc, ◌+◌, ◌<◌, List, [], ◌∷◌, length, slice_index}
use Rattle.je_instr.specs.declared.instr.Instr.{Instr}
use Rattle.je_instr.specs.declared.program.Handler.{Handler}
use Rattle.je_instr.specs.declared.program.Program.{Program}
use Rattle.je_instr.specs.CodeProgram.{HasTargets}
use Rattle.je_splice.specs.Block.{Piece}
use Rattle.je_splice.specs.Layout as layout
use Rattle.je_splice.specs.InstrCodes.{instr_codes, moved_entry_of}
use Rattle.je_splice.specs.Layout.{width, moved_to, shut, laid_code, laid_handlers}
use Rattle.je_splice.specs.Marks.{Marks, first_of, arrive, new_index, entry_target}
use Rattle.je_splice.specs.Marks.{marked_handlers}
use Rattle.je_put.specs.declared.block.Block.{Block}
use Rattle.je_put.specs.declared.block.Spliced.{Spliced}
use Rattle.je_put.specs.declared.items.Item.{Item}
use Rattle.je_put.specs.declared.items.Item.TheVariants.{Jumps, Keeps, Puts}
use Rattle.je_put.specs.declared.tables.Tables.{Tables}
use Rattle.je_put.specs.Placing.{BelongsTo}
use Rattle.je_put.specs.Result.{Lists, pieces, shapes_from}

abbrev pub Row : Type 0
Row = List (layout.Item Instr (Piece Instr Handler))

-- where each place begins, from an index on, and where the last one ends
abbrev pub begins_from : ℕ → Row → List ℕ
begins_from at [] = at ∷ []
begins_from at (item ∷ items) = at ∷ begins_from (at + width item) items

-- these are the tables of so many indexes
pub record AreTables (m : Marks Block Handler) (items : Row) (count : ℕ) (tables : Tables) : Type 0
  where
    pub firsts : Lists (first_of m) count tables.firsts.items
    pub landing : Lists (λ i. moved_to items (arrive m i)) count tables.landing.items
    pub new_of : Lists (new_index m items) count tables.new_of.items

-- they are so long
pub record HaveLength (count : ℕ) (tables : Tables) : Type 0 where
  pub firsts : length tables.firsts.items ≡ count
  pub landing : length tables.landing.items ≡ count
  pub new_of : length tables.new_of.items ≡ count

-- the targets of an instruction that stays are below a number
abbrev pub HasTargetsBelow : ℕ → Item → Type 0
HasTargetsBelow count (Jumps place) = Unit {0}
HasTargetsBelow count (Keeps over instr) = HasTargets count instr.now
HasTargetsBelow count (Puts over block) = Unit {0}

-- what a block knows was made by it or by one of so many instructions
abbrev pub BelongBelow : ℕ → Item → Type 0
BelongBelow count (Jumps place) = Unit {0}
BelongBelow count (Keeps over instr) = Unit {0}
BelongBelow count (Puts over block) = BelongsTo count block.now

-- the table says where jumps to an index arrive
abbrev pub Lands : Marks Block Handler → Row → List ℕ → Type 0
Lands m items landing =
    (i : ℕ) → i < length landing → slice_index landing i ≡ moved_to items (arrive m i)

-- the place to which an entry of the exception table leads
abbrev pub entry_place : Marks Block Handler → Handler → ℕ
entry_place m h = entry_target m (m.entry_of h) h.target

-- the entry in the new code
abbrev pub moved_handler : Marks Block Handler → Row → Handler → Handler
moved_handler m items h =
    moved_entry_of (moved_to items) (shut items) (moved_to items)
    (moved_entry_of (first_of m) (first_of m) (entry_target m (m.entry_of h)) h)

-- the items are laid out
pub record IsLaid (m : Marks Block Handler) (items : List (layout.Item Instr Block)) (p : Program)
    (s : Spliced) : Type 0 where
  pub instrs : s.program.instrs ≡ laid_code instr_codes (pieces items)
  pub handlers : s.program.handlers
      ≡ laid_handlers instr_codes (pieces items) (marked_handlers instr_codes m p.handlers)
  pub new_of : Lists (new_index m (pieces items)) (suc (length p.instrs)) s.new_of
  pub shapes : s.shapes ≡ shapes_from (slice_index s.new_of) 0 items
