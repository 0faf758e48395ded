-- The program with its blocks, from what is laid out.
use Rattle.std.proofs.Common.{◌≡◌, ℕ, suc, ◌+◌, List, length, sym, ap, ◌∙◌, subst, arith, slice_index}
use Rattle.std.specs.List.{AllByRecursion}
use Rattle.je_instr.specs.CodeProgram.{HasTargets}
use Rattle.je_instr.specs.declared.instr.Instr.{Instr}
use Rattle.je_instr.specs.declared.program.Handler.{Handler}
use Rattle.je_instr.specs.declared.program.Program.{Program}
use Rattle.je_splice.specs.InstrCodes.{instr_codes}
use Rattle.je_splice.specs.Layout as layout
use Rattle.je_splice.specs.Marks.{marked_items}
use Rattle.je_put.specs.declared.block.Block.{Block}
use Rattle.je_put.specs.declared.block.EntryBlock.{EntryBlock}
use Rattle.je_put.specs.declared.block.PlaceBlock.{PlaceBlock}
use Rattle.je_put.specs.declared.block.Spliced.{Spliced}
use Rattle.je_put.specs.declared.items.Item.{Item}
use Rattle.je_put.specs.declared.parts.Parts.{Parts}
use Rattle.je_put.specs.Items.{items_seen}
use Rattle.je_put.specs.Parts.{HasParts}
use Rattle.je_put.specs.Placing.{BelongsTo, block_marks}
use Rattle.je_put.specs.Result.{put_items, put_program, new_place, put_shapes}
use Rattle.je_put.specs.Tables.{HasTargetsBelow, BelongBelow, IsLaid}
use Rattle.je_put.proofs.CodeLemmas.{listed}
use Rattle.je_put.proofs.ShapesLemmas.{SeenBelongs, marked_belong, seen_belong, from_agrees}

pub has_as : (places : List PlaceBlock) (entries : List EntryBlock) (count n : ℕ) (table rows : List Parts) → HasParts places entries count table → count ≡ n → rows ≡ table
    → HasParts places entries n rows
has_as places entries count n table rows has count_is rows_is =
    subst (λ (l : List Parts). HasParts places entries n l) (sym rows_is) (subst (λ (k : ℕ). HasParts places entries k table) count_is has)

pub targets_of : (count : ℕ) (items list : List Item) (instrs slice : List Instr) → slice ≡ instrs → list ≡ items
    → (AllByRecursion (HasTargets count) slice → AllByRecursion (HasTargetsBelow count) items) → AllByRecursion (HasTargets count) instrs → AllByRecursion (HasTargetsBelow count) list
targets_of count items list instrs slice slice_is list_is kept all =
    subst (AllByRecursion (HasTargetsBelow count)) (sym list_is) (kept (subst (AllByRecursion (HasTargets count)) (sym slice_is) all))

module _ (p : Program) (places : List PlaceBlock) (entries : List EntryBlock)
    (placed : AllByRecursion (λ (put : PlaceBlock). BelongsTo (length p.instrs) put.block) places)
    (entered : AllByRecursion (λ (put : EntryBlock). BelongsTo (length p.instrs) put.block) entries) where
  put_belong : AllByRecursion (SeenBelongs (length p.instrs)) (put_items p places entries)
  put_belong = marked_belong (length p.instrs) places entries placed entered p.instrs

  pub belong_of : (items : List Item) → items_seen (block_marks places entries) items ≡ put_items p places entries → AllByRecursion (BelongBelow (length p.instrs)) items
  belong_of items is = seen_belong (length p.instrs) (block_marks places entries) items (subst (AllByRecursion (SeenBelongs (length p.instrs))) (sym is) put_belong)

  pub shapes_put : (s : Spliced) → IsLaid (block_marks places entries) (put_items p places entries) p s → s.shapes ≡ put_shapes p places entries
  shapes_put s laid =
      laid.shapes
      ∙ from_agrees (slice_index s.new_of) (new_place p places entries) (length p.instrs)
      (λ k within. listed (new_place p places entries) (suc (length p.instrs)) k 0 s.new_of laid.new_of (omega (arith, within)))
      0 (put_items p places entries) put_belong

abbrev program : List Instr → List Handler → Program
program instrs handlers = record { instrs = instrs; handlers = handlers }

pub program_put : (p : Program) (places : List PlaceBlock) (entries : List EntryBlock) (s : Spliced) → IsLaid (block_marks places entries) (put_items p places entries) p s
    → s.program ≡ put_program p places entries
program_put p places entries s laid =
    ap (λ (l : List Instr). program l s.program.handlers) laid.instrs
    ∙ ap (λ (l : List Handler). program (put_program p places entries).instrs l) laid.handlers

-- the items are those of the program
pub items_put : (p : Program) (places : List PlaceBlock) (entries : List EntryBlock) (items list : List Item) (slice : List Instr) (count : ℕ) (table rows : List Parts) → list ≡ items → slice ≡ p.instrs
    → HasParts places entries count table → count ≡ length slice + 1 → rows ≡ table
    → (HasParts places entries (suc (length slice)) rows → items_seen (block_marks places entries) items ≡ marked_items instr_codes (block_marks places entries) slice)
    → items_seen (block_marks places entries) list ≡ put_items p places entries
items_put p places entries items list slice count table rows list_is slice_is has count_is rows_is seen =
    let long : count ≡ suc (length slice) = omega (arith, count_is) in
    ap (items_seen (block_marks places entries)) list_is ∙ seen (has_as places entries count (suc (length slice)) table rows has long rows_is)
    ∙ ap (λ (l : List Instr). marked_items instr_codes (block_marks places entries) l) slice_is

-- what is laid out is the program's
pub laid_put : (p : Program) (places : List PlaceBlock) (entries : List EntryBlock) (list : List Item) (s : Spliced) (count : ℕ) (table rows : List Parts)
    → items_seen (block_marks places entries) list ≡ put_items p places entries → HasParts places entries count table → rows ≡ table
    → (HasParts places entries (length rows) rows → IsLaid (block_marks places entries) (items_seen (block_marks places entries) list) p s)
    → IsLaid (block_marks places entries) (put_items p places entries) p s
laid_put p places entries list s count table rows seen has rows_is laid =
    let long : count ≡ length rows = sym (ap length rows_is ∙ has.long) in
    subst (λ (l : List (layout.Item Instr Block)). IsLaid (block_marks places entries) l p s) seen (laid (has_as places entries count (length rows) table rows has long rows_is))
