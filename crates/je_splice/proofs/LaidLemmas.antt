-- A program that is laid out has at each place what the reference does there.
use Rattle.std.proofs.Common.{◌≡◌, ℕ, zero, suc, ◌+◌, ◌-◌, ◌<◌, List, [], length, Option, Some, None, Bool, refl, sym, ap, subst, ◌∙◌, inl, inr, arith}
use Rattle.std.specs.Prelude.{option_map, slice_get}
use Rattle.std.specs.Option.{option_or}
use Rattle.je_machine.specs.Value.{Value, Kind}
use Rattle.je_machine.specs.Heap.{Heap}
use Rattle.je_machine.specs.Classes.{Classes}
use Rattle.je_machine.specs.Operation.{Operation, Goto, Handler, Program}
use Rattle.je_machine.specs.Frame.{Frame, frame_of}
use Rattle.je_machine.specs.Machine.{catcher}
use Rattle.je_machine.specs.Moved.{retargeted}
use Rattle.je_splice.specs.Block.{Block}
use Rattle.je_splice.specs.Comes.{Does}
use Rattle.je_splice.specs.Reference.{Reference, body_of}
use Rattle.je_splice.specs.Embeds.{Skips, HasOperation, HasMeaning, HasPlace, Embeds}
use Rattle.je_splice.specs.Layout.{operation_codes, Item, Keeps, Puts, over_of, next_by, next_place, body_width, jump_width, moved_to, laid_handlers, Within}
use Rattle.je_splice.specs.Laid.{Fragment, doing_of, reference_of, with_block, blocks_of, laid, FitsItem, Fits}
use Rattle.je_splice.proofs.LayoutLemmas.{get_mapped, get_within, get_less, body_stands, jump_stands, next_begins}
use Rattle.je_splice.proofs.CatcherLemmas.{laid_catcher, catcher_own}
use Rattle.je_splice.proofs.EmbedsLemmas.{embeds_does}

over_same : (item : Item Operation Fragment) → over_of (with_block item) ≡ over_of item
over_same (Keeps over operation) = refl
over_same (Puts over fragment) = refl

-- ---- where throws go

pub instruction_throws : (classes : Classes) (heap : Heap) (v : Value) (items : List (Item Operation Block)) (handlers : List Handler) (place over : ℕ) (operation : Operation)
    → slice_get items place ≡ Some (Keeps over operation) → ((i : ℕ) (x : Item Operation Block) → slice_get items i ≡ Some x → Within x)
    → catcher (laid_handlers operation_codes items handlers) classes (moved_to items place) heap v
    ≡ option_map (moved_to items) (catcher handlers classes place heap v)
instruction_throws classes heap v items handlers place over operation is within =
    let no_more : moved_to items place ≡ moved_to items place + 0 = omega arith in
    ap (λ (n : ℕ). catcher (laid_handlers operation_codes items handlers) classes n heap v) no_more
    ∙ laid_catcher classes heap v items handlers place 0 (Keeps over operation) is within (omega arith)

pub piece_throws : (classes : Classes) (heap : Heap) (v : Value) (items : List (Item Operation Block)) (handlers : List Handler) (place over k : ℕ) (block : Block)
    → slice_get items place ≡ Some (Puts over block) → ((i : ℕ) (x : Item Operation Block) → slice_get items i ≡ Some x → Within x) → k < length block.code
    → catcher (laid_handlers operation_codes items handlers) classes (moved_to items place + k) heap v
    ≡ option_or (option_map (λ t. moved_to items place + t) (catcher block.handlers classes k heap v)) (option_map (moved_to items) (catcher handlers classes place heap v))
piece_throws classes heap v items handlers place over k block is within less =
    laid_catcher classes heap v items handlers place k (Puts over block) is within less
    ∙ ap (λ o. option_or o (option_map (moved_to items) (catcher handlers classes place heap v))) (catcher_own classes heap v block.handlers (moved_to items place) k)

-- ---- each place

module _ (limit : ℕ) (ok : ℕ → Frame → Bool) (parameters : List Kind) (items : List (Item Operation Fragment)) (handlers : List Handler)
    (fits : Fits limit ok parameters items handlers) where
  abbrev blocks : List (Item Operation Block)
  blocks = blocks_of items

  abbrev to : ℕ → ℕ
  to = moved_to blocks

  abbrev r : Reference
  r = reference_of parameters items handlers

  abbrev q : Program
  q = laid parameters items handlers

  abbrev rank : ℕ → ℕ
  rank place = length items - place

  there : (place : ℕ) (item : Item Operation Fragment) → slice_get items place ≡ Some item → slice_get blocks place ≡ Some (with_block item)
  there place item is = get_mapped with_block items place ∙ ap (option_map with_block) is

  within_item : (place : ℕ) (item : Item Operation Fragment) → FitsItem limit (ok place) item → Within (with_block item)
  within_item place (Keeps over operation) fit = tt
  within_item place (Puts over fragment) fit = fit.1

  within_by : (i : ℕ) (x : Item Operation Block) (found : Option (Item Operation Fragment)) → slice_get items i ≡ found
      → option_map with_block found ≡ Some x → Within x
  within_by i x None is e = absurd cc
  within_by i x (Some item) is e =
      let same : with_block item ≡ x = cc in
      subst (λ y. Within y) same (within_item i item (fits.each i item is))

  within : (i : ℕ) (x : Item Operation Block) → slice_get blocks i ≡ Some x → Within x
  within i x is = within_by i x (slice_get items i) refl (sym (get_mapped with_block items i) ∙ is)

  next_is : (place : ℕ) (item : Item Operation Fragment) → slice_get items place ≡ Some item → next_place items place ≡ suc place + over_of (with_block item)
  next_is place item is = ap (next_by place) is ∙ ap (λ (n : ℕ). suc place + n) (sym (over_same item))

  skips_by : (place : ℕ) (item : Item Operation Fragment) → slice_get items place ≡ Some item → (over : ℕ) → over_of (with_block item) ≡ over
      → Skips q (to place + body_width (with_block item)) (to (next_place items place))
  skips_by place item is zero e =
      let begins = next_begins blocks place (with_block item) (there place item is) in
      let none : jump_width (over_of (with_block item)) ≡ 0 = ap jump_width e in
      let next : next_place items place ≡ suc place = omega (arith, next_is place item is, e) in
      let same : to place + body_width (with_block item) ≡ to (suc place) = omega (arith, begins, none) in
      inl (same ∙ ap to (sym next))
  skips_by place item is (suc over) e =
      inr (jump_stands operation_codes blocks place over (with_block item) (there place item is) e ∙ ap (λ (n : ℕ). Some (Goto (to n))) (sym (next_is place item is)))

  skips : (place : ℕ) (item : Item Operation Fragment) → slice_get items place ≡ Some item → Skips q (to place + body_width (with_block item)) (to (next_place items place))
  skips place item is = skips_by place item is (over_of (with_block item)) refl

  has_operation : (place over : ℕ) (operation : Operation) → slice_get items place ≡ Some (Keeps over operation) → HasOperation r q to limit place operation
  has_operation place over operation is =
      let no_more : to place + 0 ≡ to place = omega arith in
      let one : to place + 1 ≡ suc (to place) = omega arith in
      record {
        stands =
            ap (slice_get q.operations) (sym no_more)
            ∙ body_stands operation_codes blocks place 0 (Keeps over operation) (retargeted to operation) (there place (Keeps over operation) is) refl;
        uses = fits.each place (Keeps over operation) is;
        handles = λ classes heap v. instruction_throws classes heap v blocks handlers place over operation (there place (Keeps over operation) is) within;
        skips = subst (λ (n : ℕ). Skips q n (to (next_place items place))) one (skips place (Keeps over operation) is);
      }

  has_meaning : (place over : ℕ) (fragment : Fragment) → slice_get items place ≡ Some (Puts over fragment) → HasMeaning r q to limit place (ok place) rank fragment.meaning
  has_meaning place over fragment is =
      let item : Item Operation Block = Puts over fragment.block in
      let at = there place (Puts over fragment) is in
      let less = get_less items place (Puts over fragment) is in
      let next = next_is place (Puts over fragment) is in
      record {
        block = fragment.block;
        means = (fits.each place (Puts over fragment) is).0;
        holds = λ classes. record {
          code = λ k operation h.
              body_stands operation_codes blocks place k item (retargeted (λ t. to place + t) operation) at
              (get_mapped (retargeted (λ t. to place + t)) fragment.block.code k ∙ ap (option_map (retargeted (λ t. to place + t))) h);
          handles = λ k heap v less. piece_throws classes heap v blocks handlers place over k fragment.block at within less;
        };
        skips = skips place (Puts over fragment) is;
        falls = omega (arith, less, next);
      }

  has_place : (place : ℕ) (found : Option (Item Operation Fragment)) → slice_get items place ≡ found → HasPlace r q to limit place (ok place) rank (option_map doing_of found)
  has_place place None is = λ frame fine. get_within items place (fits.inside place frame fine) is
  has_place place (Some (Keeps over operation)) is = has_operation place over operation is
  has_place place (Some (Puts over fragment)) is = has_meaning place over fragment is

  pub laid_embeds : Embeds (reference_of parameters items handlers) (laid parameters items handlers) (moved_to (blocks_of items)) limit ok (λ place. length items - place) (length items)
  laid_embeds = record {
    parameters = refl;
    begins = inl refl;
    each = λ place. has_place place (slice_get items place) refl;
    ranks = λ place. omega arith;
    kept = fits.kept;
  }

  pub laid_does : (classes : Classes)
      → Does (laid parameters items handlers) classes limit (length items) (suc (length items)) (λ locals. ok 0 (frame_of [] locals)) (body_of (reference_of parameters items handlers) classes)
  laid_does classes =
      embeds_does (reference_of parameters items handlers) (laid parameters items handlers) (moved_to (blocks_of items)) limit ok (λ place. length items - place) (length items) laid_embeds classes
