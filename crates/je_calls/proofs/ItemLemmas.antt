-- What stands where in the program in which calls are replaced.
use Rattle.std.proofs.Common.{◌≡◌, ℕ, zero, suc, ◌+◌, List, [], ◌∷◌, ◌++◌, length, map, Option, Some, Bool, true, false, option_map, refl, sym, ap, subst, ◌∙◌, arith}
use Rattle.std.specs.Prelude.{slice_get}
use Rattle.std.specs.List.{AllByRecursion, AllZip}
use Rattle.je_machine.specs.Operation.{Operation}
use Rattle.je_instr.specs.declared.instr.Instr.{Instr}
use Rattle.je_instr.specs.declared.program.Handler.{Handler}
use Rattle.je_splice.specs.Block.{Piece}
use Rattle.je_splice.specs.InstrCodes.{redirected, leads_on, instr_codes}
use Rattle.je_splice.specs.Layout.{Item, Keeps, Puts, over_of, jump_width, width, moved_to, body_code, jump_code, item_code, code_from, own_handlers, own_from}
use Rattle.je_splice.specs.Marks.{Marks, OnlyInstead, over_if, arrive, last_item, index_items, items_from}
use Rattle.je_splice.specs.Put.{chosen_at}
use Rattle.je_put.specs.declared.block.Block.{Block}
use Rattle.je_put.specs.Result.{with_piece}
use Rattle.je_splice.proofs.LayoutLemmas.{next_begins}
use Rattle.je_shape.specs.Least.{Assignment}
use Rattle.je_calls.specs.declared.rule.Choice.{Choice}
use Rattle.je_calls.specs.declared.rule.Choice.TheVariants.{Stays, Drops, Gives}
use Rattle.je_calls.specs.declared.rule.Fragment.TheVariants.{Empty, Proceed}
use Rattle.je_calls.specs.declared.rule.Rule.{Rule}
use Rattle.je_calls.specs.Chosen.{choice_of, choices_from}
use Rattle.je_calls.specs.Blocks.{code_by, block_of, blocks_of}
use Rattle.je_calls.proofs.FlowLemmas.{each_joined}

-- ---- lists

pub zip_at : {A B : Type 0} (R : A → B → Type 0) (xs : List A) (ys : List B) (i : ℕ) (a : A) → AllZip R xs ys → slice_get xs i ≡ Some a
    → (b : B) × (slice_get ys i ≡ Some b) × R a b
zip_at R [] [] i a h e = absurd cc
zip_at R [] (y ∷ ys) i a h e = absurd h
zip_at R (x ∷ xs) [] i a h e = absurd h
zip_at R (x ∷ xs) (y ∷ ys) zero a h e = let same : x ≡ a = cc in (y, refl, subst (λ z. R z y) same h.0)
zip_at R (x ∷ xs) (y ∷ ys) (suc i) a h e = zip_at R xs ys i a h.1 e

-- ---- choices

-- the block at an index is that of the choice there
pub block_at : (rules : List Rule) (x : Assignment) (k : ℕ) (instrs : List Instr) (operations : List Operation) (i : ℕ) (a : Instr) (o : Operation)
    → slice_get instrs i ≡ Some a → slice_get operations i ≡ Some o
    → chosen_at (blocks_of instrs (choices_from rules x k operations)) i ≡ option_map block_of (code_by a (choice_of rules (x (k + i)) o))
block_at rules x k [] operations i a o e f = absurd cc
block_at rules x k (b ∷ instrs) [] i a o e f = absurd cc
block_at rules x k (b ∷ instrs) (p ∷ operations) zero a o e f =
    let first : b ≡ a = cc in
    let second : p ≡ o = cc in
    let none : k ≡ k + 0 = omega arith in
    ap (λ c. option_map block_of (code_by c (choice_of rules (x k) p))) first ∙ ap (λ c. option_map block_of (code_by a (choice_of rules (x k) c))) second
    ∙ ap (λ (n : ℕ). option_map block_of (code_by a (choice_of rules (x n) o))) none
block_at rules x k (b ∷ instrs) (p ∷ operations) (suc i) a o e f =
    let next : suc k + i ≡ k + suc i = omega arith in
    block_at rules x (suc k) instrs operations i a o e f ∙ ap (λ (n : ℕ). option_map block_of (code_by a (choice_of rules (x n) o))) next

abbrev pub width_by : Choice → ℕ
width_by Stays = 1
width_by Drops = 0
width_by (Gives Empty) = 0
width_by (Gives Proceed) = 1

no_over : (b : Bool) → over_if b 0 ≡ 0
no_over true = refl
no_over false = refl

-- ---- the items

abbrev pub Marking : Type 0
Marking = Marks Block Handler

-- what stands at an index
abbrev pub item_of : Marking → ℕ → Instr → Item Instr (Piece Instr Handler)
item_of m i a = with_piece (last_item instr_codes m i a (m.instead i))

abbrev pub items_of : Marking → ℕ → List Instr → List (Item Instr (Piece Instr Handler))
items_of m i [] = []
items_of m i (a ∷ instrs) = item_of m i a ∷ items_of m (suc i) instrs

pub item_at : (m : Marking) (k : ℕ) (instrs : List Instr) (i : ℕ) (a : Instr) → slice_get instrs i ≡ Some a → slice_get (items_of m k instrs) i ≡ Some (item_of m (k + i) a)
item_at m k [] i a e = absurd cc
item_at m k (b ∷ instrs) zero a e =
    let same : b ≡ a = cc in
    let none : k ≡ k + 0 = omega arith in
    ap (λ c. Some (item_of m k c)) same ∙ ap (λ (n : ℕ). Some (item_of m n a)) none
item_at m k (b ∷ instrs) (suc i) a e =
    let next : suc k + i ≡ k + suc i = omega arith in
    item_at m (suc k) instrs i a e ∙ ap (λ (n : ℕ). Some (item_of m n a)) next

pub items_long : (m : Marking) (k : ℕ) (instrs : List Instr) → length (items_of m k instrs) ≡ length instrs
items_long m k [] = refl
items_long m k (a ∷ instrs) = ap suc (items_long m (suc k) instrs)

module _ (m : Marking) (only : OnlyInstead m) where
  one_item : (i : ℕ) (a : Instr) → index_items instr_codes m i a ≡ last_item instr_codes m i a (m.instead i) ∷ []
  one_item i a = rw (only.entries i, only.passed i, only.met i) refl

  pub items_are : (k : ℕ) (instrs : List Instr) → map with_piece (items_from instr_codes m k instrs) ≡ items_of m k instrs
  items_are k [] = refl
  items_are k (a ∷ instrs) =
      ap (λ l. map with_piece (l ++ items_from instr_codes m (suc k) instrs)) (one_item k a) ∙ ap (λ l. item_of m k a ∷ l) (items_are (suc k) instrs)

  -- ---- how many instructions stand there

  over_none : (i : ℕ) (b : Bool) → over_if b (length (m.entries (suc i))) ≡ 0
  over_none i b = ap (λ (xs : List Block). over_if b (length xs)) (only.entries (suc i)) ∙ no_over b

  abbrev item_by : ℕ → Instr → Option Block → Item Instr (Piece Instr Handler)
  item_by i a o = with_piece (last_item instr_codes m i a o)

  width_is : (i : ℕ) (a : Instr) (c : Choice) → width (item_by i a (option_map block_of (code_by a c))) ≡ width_by c
  width_is i a Stays = ap (λ (n : ℕ). 1 + jump_width n) (over_none i (leads_on a))
  width_is i a Drops = ap (λ (n : ℕ). 0 + jump_width n) (over_none i (m.completes (block_of [])))
  width_is i a (Gives Empty) = ap (λ (n : ℕ). 0 + jump_width n) (over_none i (m.completes (block_of [])))
  width_is i a (Gives Proceed) = ap (λ (n : ℕ). 1 + jump_width n) (over_none i (m.completes (block_of (a ∷ []))))

  -- the next one begins behind it
  pub begins_by : (instrs : List Instr) (i : ℕ) (a : Instr) (c : Choice) → slice_get instrs i ≡ Some a → m.instead i ≡ option_map block_of (code_by a c)
      → moved_to (items_of m 0 instrs) (suc i) ≡ moved_to (items_of m 0 instrs) i + width_by c
  begins_by instrs i a c there e =
      let none : 0 + i ≡ i = omega arith in
      let stands : slice_get (items_of m 0 instrs) i ≡ Some (item_of m i a) = item_at m 0 instrs i a there ∙ ap (λ (n : ℕ). Some (item_of m n a)) none in
      next_begins (items_of m 0 instrs) i (item_of m i a) stands
      ∙ ap (λ (n : ℕ). moved_to (items_of m 0 instrs) i + n) (ap (λ o. width (item_by i a o)) e ∙ width_is i a c)

-- ---- each instruction that stands there

module _ (P : Instr → Type 0) (to : ℕ → ℕ) where
  abbrev pub IsFine : Item Instr (Piece Instr Handler) → Type 0
  IsFine (Keeps over a) = (over ≡ 0) × P (redirected to a)
  IsFine (Puts over piece) = (over ≡ 0) × ((at : ℕ) → AllByRecursion P (map (redirected (λ target. at + target)) piece.code)) × (piece.handlers ≡ [])

  no_jump : (place target over : ℕ) → over ≡ 0 → AllByRecursion P (jump_code instr_codes place target over)
  no_jump place target zero e = tt
  no_jump place target (suc over) e = absurd cc

  fine_body : (at : ℕ) (item : Item Instr (Piece Instr Handler)) → IsFine item → AllByRecursion P (body_code instr_codes to at item)
  fine_body at (Keeps over a) h = (h.1, tt)
  fine_body at (Puts over piece) h = h.1 at

  fine_over : (item : Item Instr (Piece Instr Handler)) → IsFine item → over_of item ≡ 0
  fine_over (Keeps over a) h = h.0
  fine_over (Puts over piece) h = h.0

  pub fine_code : (place at : ℕ) (items : List (Item Instr (Piece Instr Handler))) → AllByRecursion IsFine items → AllByRecursion P (code_from instr_codes to place at items)
  fine_code place at [] h = tt
  fine_code place at (item ∷ items) h =
      each_joined P (item_code instr_codes to place at item) (code_from instr_codes to (suc place) (at + width item) items)
      (each_joined P (body_code instr_codes to at item) (jump_code instr_codes place (to (suc place + over_of item)) (over_of item))
      (fine_body at item h.0) (no_jump place (to (suc place + over_of item)) (over_of item) (fine_over item h.0)))
      (fine_code (suc place) (at + width item) items h.1)

  own_none : (at : ℕ) (item : Item Instr (Piece Instr Handler)) → IsFine item → own_handlers instr_codes at item ≡ []
  own_none at (Keeps over a) h = refl
  own_none at (Puts over piece) h = ap (map (instr_codes.move (λ start. at + start) (λ end. at + end) (λ target. at + target))) h.2

  pub fine_own : (at : ℕ) (items : List (Item Instr (Piece Instr Handler))) → AllByRecursion IsFine items → own_from instr_codes at items ≡ []
  fine_own at [] h = refl
  fine_own at (item ∷ items) h =
      ap (λ l. l ++ own_from instr_codes (at + width item) items) (own_none at item h.0) ∙ fine_own (at + width item) items h.1

  module _ (m : Marking) (only : OnlyInstead m) where
    fine_by : (i : ℕ) (a : Instr) (c : Choice) → (c ≡ Stays → P (redirected to (redirected (arrive m) a)))
        → (c ≡ Gives Proceed → (at : ℕ) → P (redirected (λ target. at + target) a)) → IsFine (item_by m only i a (option_map block_of (code_by a c)))
    fine_by i a Stays f g = (over_none m only i (leads_on a), f refl)
    fine_by i a Drops f g = (over_none m only i (m.completes (block_of [])), λ at. tt, refl)
    fine_by i a (Gives Empty) f g = (over_none m only i (m.completes (block_of [])), λ at. tt, refl)
    fine_by i a (Gives Proceed) f g = (over_none m only i (m.completes (block_of (a ∷ []))), λ at. (g refl at, tt), refl)

    pub fine_item : (i : ℕ) (a : Instr) (c : Choice) → m.instead i ≡ option_map block_of (code_by a c) → (c ≡ Stays → P (redirected to (redirected (arrive m) a)))
        → (c ≡ Gives Proceed → (at : ℕ) → P (redirected (λ target. at + target) a)) → IsFine (item_of m i a)
    fine_item i a c e f g = subst (λ o. IsFine (with_piece (last_item instr_codes m i a o))) (sym e) (fine_by i a c f g)

    pub fine_items : (k : ℕ) (instrs : List Instr) → ((i : ℕ) (a : Instr) → slice_get instrs i ≡ Some a → IsFine (item_of m (k + i) a)) → AllByRecursion IsFine (items_of m k instrs)
    fine_items k [] f = tt
    fine_items k (a ∷ instrs) f =
        let none : k + 0 ≡ k = omega arith in (
          subst (λ (n : ℕ). IsFine (item_of m n a)) none (f 0 a refl),
          fine_items (suc k) instrs (λ i b e. let next : k + suc i ≡ suc k + i = omega arith in subst (λ (n : ℕ). IsFine (item_of m n b)) next (f (suc i) b e)),
        )
