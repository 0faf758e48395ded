-- A program with blocks in place.
use Rattle.std.specs.Prelude.{◌≡◌, ℕ, ◌+◌, ◌-◌, ◌<◌, List, [], ◌∷◌, ◌++◌, length, map, Some}
use Rattle.std.specs.Prelude.{slice_get, nat_lt, if◌then◌else◌}
use Rattle.je_instr.specs.declared.instr.Instr.{Instr}
use Rattle.je_instr.specs.declared.program.Handler.{Handler}
use Rattle.je_instr.specs.declared.program.Program.{Program}
use Rattle.je_shape.specs.declared.slot.Shape.{Shape}
use Rattle.je_shape.specs.declared.slot.Slot.{Slot}
use Rattle.je_shape.specs.declared.slot.Slot.TheVariants.{Uninit}
use Rattle.je_splice.specs.Block.{Piece}
use Rattle.je_splice.specs.InstrCodes.{instr_codes}
use Rattle.je_splice.specs.Layout.{Item, Keeps, Puts, width, laid_code, laid_handlers}
use Rattle.je_splice.specs.Marks.{marked_items, marked_handlers, new_index}
use Rattle.je_put.specs.declared.block.Block.{Block}
use Rattle.je_put.specs.declared.block.EntryBlock.{EntryBlock}
use Rattle.je_put.specs.declared.block.PlaceBlock.{PlaceBlock}
use Rattle.je_put.specs.Placing.{piece_of, block_marks}

-- the instructions and the blocks in a row
abbrev pub put_items : Program → List PlaceBlock → List EntryBlock → List (Item Instr Block)
put_items p places entries = marked_items instr_codes (block_marks places entries) p.instrs

abbrev pub with_piece : Item Instr Block → Item Instr (Piece Instr Handler)
with_piece (Keeps over instr) = Keeps over instr
with_piece (Puts over block) = Puts over (piece_of block)

abbrev pub pieces : List (Item Instr Block) → List (Item Instr (Piece Instr Handler))
pieces items = map with_piece items

-- the program that has the blocks in place
abbrev pub put_program : Program → List PlaceBlock → List EntryBlock → Program
put_program p places entries =
    let items = pieces (put_items p places entries) in
    record {
      instrs = laid_code instr_codes items;
      handlers = laid_handlers instr_codes items
          (marked_handlers instr_codes (block_marks places entries) p.handlers);
    }

-- ---- indexes

-- where what stands at an old index begins; the end goes to the end
abbrev pub new_place : Program → List PlaceBlock → List EntryBlock → ℕ → ℕ
new_place p places entries =
    new_index (block_marks places entries) (pieces (put_items p places entries))

-- the list has the function's values from 0 on
pub record Lists (f : ℕ → ℕ) (count : ℕ) (list : List ℕ) : Type 0 where
  pub each : (i : ℕ) → i < count → slice_get list i ≡ Some (f i)
  pub long : length list ≡ count

-- ---- shapes

-- where what a `new` of a block of so many instructions made is made, where the block stands at an
-- index
abbrev pub moved_new : (ℕ → ℕ) → ℕ → ℕ → ℕ → ℕ
moved_new to at size k = if nat_lt k size then at + k else to (k - size)

abbrev pub moved_slot : (ℕ → ℕ) → ℕ → ℕ → Slot → Slot
moved_slot to at size (Uninit k) = Uninit (moved_new to at size k)
moved_slot to at size slot = slot

abbrev pub moved_shape : (ℕ → ℕ) → ℕ → ℕ → ℕ × Shape → ℕ × Shape
moved_shape to at size known = (
  at + known.0,
  record {
    stack = map (moved_slot to at size) known.1.stack;
    locals = map (moved_slot to at size) known.1.locals;
  },
)

abbrev pub item_shapes : (ℕ → ℕ) → ℕ → Item Instr Block → List (ℕ × Shape)
item_shapes to at (Keeps over instr) = []
item_shapes to at (Puts over block) = map (moved_shape to at (length block.instrs)) block.shapes

-- the shapes of the blocks from an index on
abbrev pub shapes_from : (ℕ → ℕ) → ℕ → List (Item Instr Block) → List (ℕ × Shape)
shapes_from to at [] = []
shapes_from to at (item ∷ items) =
    item_shapes to at item ++ shapes_from to (at + width (with_piece item)) items

-- those of all blocks, in order
abbrev pub put_shapes : Program → List PlaceBlock → List EntryBlock → List (ℕ × Shape)
put_shapes p places entries =
    shapes_from (new_place p places entries) 0 (put_items p places entries)
