-- Where instructions go, where nothing is put but in the place of some.
use Rattle.std.proofs.Common.{◌≡◌, ℕ, zero, suc, ◌+◌, ◌≤◌, List, [], ◌∷◌, ◌++◌, length, map, Option, Some, None, refl, sym, ap, subst, ◌∙◌, arith}
use Rattle.std.specs.Prelude.{option_map, slice_get, Bool, true, false, IfSome, filter, cond}
use Rattle.std.proofs.lemmas.List.{length-map}
use Rattle.je_instr.specs.declared.instr.Case.{Case}
use Rattle.je_instr.specs.declared.instr.Instr.{Instr}
use Rattle.je_instr.specs.declared.instr.Instr.TheVariants.{Branch, Goto, TableSwitch, LookupSwitch}
use Rattle.je_instr.specs.declared.program.Handler.{Handler}
use Rattle.je_instr.specs.declared.program.Program.{Program}
use Rattle.je_put.specs.declared.block.Block.{Block}
use Rattle.je_put.specs.Placing.{piece_of}
use Rattle.je_put.specs.Result.{with_piece, pieces}
use Rattle.je_splice.specs.Block.{Piece}
use Rattle.je_splice.specs.InstrCodes.{instr_codes, redirected, redirected_case}
use Rattle.je_splice.specs.Layout.{Item, Keeps, Puts, width, moved_to, body_code, laid_code, laid_handlers, own_handlers, own_from, shut}
use Rattle.je_splice.specs.Marks.{Marks, OnlyInstead, arrive, stand, first_of, index_items, last_item, items_from, marked_items, marked_handlers, entry_target, over_if}
use Rattle.je_splice.specs.Put.{chosen_at}
use Rattle.je_calls.specs.declared.rule.Choice.{Choice}
use Rattle.je_calls.specs.declared.rule.Choice.TheVariants.{Stays, Drops}
use Rattle.je_calls.specs.Blocks.{code_by, block_of, blocks_of}
use Rattle.je_calls.specs.Result.{new_marks, new_items, new_place}

-- ---- items

no_over : (b : Bool) → over_if b 0 ≡ 0
no_over true = refl
no_over false = refl

-- the one item of an index
pub item_of : Marks Block Handler → ℕ → Instr → Option Block → Item Instr Block
item_of m i a None = Keeps 0 (redirected (arrive m) a)
item_of m i a (Some x) = Puts 0 x

abbrev pub item_at : Marks Block Handler → ℕ → Instr → Item Instr Block
item_at m i a = item_of m i a (m.instead i)

module _ (m : Marks Block Handler) (alone : OnlyInstead m) where
  last_is : (i : ℕ) (a : Instr) (o : Option Block) → last_item instr_codes m i a o ≡ item_of m i a o
  unfolding item_of
  last_is i a None =
      ap (λ (n : ℕ). Keeps n (redirected (arrive m) a)) (ap (λ (l : List Block). over_if (instr_codes.falls a) (length l)) (alone.entries (suc i)) ∙ no_over (instr_codes.falls a))
  last_is i a (Some x) =
      ap (λ (n : ℕ). Puts n x) (ap (λ (l : List Block). over_if (m.completes x) (length l)) (alone.entries (suc i)) ∙ no_over (m.completes x))

  index_is : (i : ℕ) (a : Instr) → index_items instr_codes m i a ≡ item_at m i a ∷ []
  index_is i a = rw (alone.entries i, alone.passed i, alone.met i) (ap (λ (x : Item Instr Block). x ∷ []) (last_is i a (m.instead i)))

  from_is : (k i : ℕ) (code : List Instr) (a : Instr) → slice_get code i ≡ Some a → slice_get (items_from instr_codes m k code) i ≡ Some (item_at m (k + i) a)
  from_is k i [] a here = absurd cc
  from_is k zero (b ∷ code) a here =
      let same : b ≡ a = cc in
      ap (λ (l : List (Item Instr Block)). slice_get (l ++ items_from instr_codes m (suc k) code) 0) (index_is k b)
      ∙ ap (λ (x : Instr). Some (item_at m k x)) same ∙ ap (λ (n : ℕ). Some (item_at m n a)) (omega arith)
  from_is k (suc i) (b ∷ code) a here =
      ap (λ (l : List (Item Instr Block)). slice_get (l ++ items_from instr_codes m (suc k) code) (suc i)) (index_is k b)
      ∙ from_is (suc k) i code a here ∙ ap (λ (n : ℕ). Some (item_at m n a)) (omega arith)

  marked_is : (code : List Instr) (i : ℕ) (a : Instr) → slice_get code i ≡ Some a → slice_get (marked_items instr_codes m code) i ≡ Some (item_at m i a)
  marked_is code i a here = rw (alone.entries 0) (from_is 0 i code a here ∙ ap (λ (n : ℕ). Some (item_at m n a)) (omega arith))

get_map : {A B : Type 0} (f : A → B) (xs : List A) (i : ℕ) (x : A) → slice_get xs i ≡ Some x → slice_get (map f xs) i ≡ Some (f x)
get_map f [] i x here = absurd cc
get_map f (y ∷ xs) zero x here = ap (option_map f) here
get_map f (y ∷ xs) (suc i) x here = get_map f xs i x here

-- with their pieces
pub items_are : (m : Marks Block Handler) → OnlyInstead m → (code : List Instr) (i : ℕ) (a : Instr) → slice_get code i ≡ Some a
    → slice_get (pieces (marked_items instr_codes m code)) i ≡ Some (with_piece (item_at m i a))
items_are m alone code i a here = get_map with_piece (marked_items instr_codes m code) i (item_at m i a) (marked_is m alone code i a here)

-- ---- two maps in a row

module _ (f to arrive : ℕ → ℕ) (same : (target : ℕ) → f target ≡ to (arrive target)) where
  targets_twice : (targets : List ℕ) → map f targets ≡ map to (map arrive targets)
  targets_twice [] = refl
  targets_twice (target ∷ targets) = ap (λ (n : ℕ). n ∷ map f targets) (same target) ∙ ap (λ l. to (arrive target) ∷ l) (targets_twice targets)

  with_target : Case → ℕ → Case
  with_target c target = record { key = c.key; target = target }

  cases_twice : (cases : List Case) → map (redirected_case f) cases ≡ map (redirected_case to) (map (redirected_case arrive) cases)
  unfolding with_target
  cases_twice [] = refl
  cases_twice (c ∷ cases) =
      ap (λ (n : ℕ). with_target c n ∷ map (redirected_case f) cases) (same c.target)
      ∙ ap (λ l. redirected_case to (redirected_case arrive c) ∷ l) (cases_twice cases)

  pub redirected_twice : (instr : Instr) → redirected f instr ≡ redirected to (redirected arrive instr)
  redirected_twice (Branch opcode target) = ap (λ (n : ℕ). Branch opcode n) (same target)
  redirected_twice (Goto target) = ap (λ (n : ℕ). Goto n) (same target)
  redirected_twice (TableSwitch low targets fallback) =
      ap (λ (l : List ℕ). TableSwitch low l (f fallback)) (targets_twice targets)
      ∙ ap (λ (n : ℕ). TableSwitch low (map to (map arrive targets)) n) (same fallback)
  redirected_twice (LookupSwitch cases fallback) =
      ap (λ (l : List Case). LookupSwitch l (f fallback)) (cases_twice cases)
      ∙ ap (λ (n : ℕ). LookupSwitch (map (redirected_case to) (map (redirected_case arrive) cases)) n) (same fallback)
  redirected_twice _ = refl

-- ---- what is put

blocks_at : (instrs : List Instr) (choices : List Choice) (i : ℕ) (a : Instr) (choice : Choice) → slice_get instrs i ≡ Some a → slice_get choices i ≡ Some choice
    → chosen_at (blocks_of instrs choices) i ≡ option_map block_of (code_by a choice)
blocks_at [] choices i a choice here there = absurd cc
blocks_at (b ∷ instrs) [] i a choice here there = absurd cc
blocks_at (b ∷ instrs) (c ∷ choices) zero a choice here there =
    let same : b ≡ a = cc in
    let one : c ≡ choice = cc in
    rw (same, one) refl
blocks_at (b ∷ instrs) (c ∷ choices) (suc i) a choice here there = blocks_at instrs choices i a choice here there

-- no block has handlers
abbrev pub Bare : Option Block → Type 0
Bare o = IfSome o (λ b. b.handlers ≡ [])

bare_one : (o : Option (List Instr)) → Bare (option_map block_of o)
bare_one None = tt
bare_one (Some code) = refl

bare_at : (instrs : List Instr) (choices : List Choice) (i : ℕ) → Bare (chosen_at (blocks_of instrs choices) i)
bare_at [] choices i = tt
bare_at (b ∷ instrs) [] i = tt
bare_at (b ∷ instrs) (c ∷ choices) zero = bare_one (code_by b c)
bare_at (b ∷ instrs) (c ∷ choices) (suc i) = bare_at instrs choices i

module _ (m : Marks Block Handler) (alone : OnlyInstead m) (bare : (i : ℕ) → Bare (m.instead i)) where
  own_none : (at i : ℕ) (a : Instr) (o : Option Block) → Bare o → own_handlers instr_codes at (with_piece (item_of m i a o)) ≡ []
  unfolding item_of
  own_none at i a None none = refl
  own_none at i a (Some b) none = rw none refl

  all_none : (code : List Instr) (at k : ℕ) → own_from instr_codes at (pieces (items_from instr_codes m k code)) ≡ []
  all_none [] at k = refl
  all_none (b ∷ code) at k =
      rw (index_is m alone k b, own_none at k b (m.instead k) (bare k)) (all_none code (at + width (with_piece (item_at m k b))) (suc k))

  pub no_own : (code : List Instr) → own_from instr_codes 0 (pieces (marked_items instr_codes m code)) ≡ []
  no_own code = rw (alone.entries 0) (all_none code 0 0)

filtered : {A : Type 0} (p : A → Bool) (xs : List A) → length (filter p xs) ≤ length xs
filtered p [] = omega arith
filtered p (x ∷ xs) = kept (p x) (filtered p xs)
  where
    kept : (b : Bool) → length (filter p xs) ≤ length xs → length (cond b (x ∷ filter p xs) (filter p xs)) ≤ suc (length xs)
    kept true less = omega (arith, less)
    kept false less = omega (arith, less)

-- ---- where instructions go

pub record Laws : Type 0 where
  pub begins : (items : List (Item Instr (Piece Instr Handler))) (place : ℕ) (item : Item Instr (Piece Instr Handler)) → slice_get items place ≡ Some item
      → moved_to items (suc place) ≡ moved_to items place + width item
  pub body : (items : List (Item Instr (Piece Instr Handler))) (place k : ℕ) (item : Item Instr (Piece Instr Handler)) (a : Instr) → slice_get items place ≡ Some item
      → slice_get (body_code instr_codes (moved_to items) (moved_to items place) item) k ≡ Some a
      → slice_get (laid_code instr_codes items) (moved_to items place + k) ≡ Some a
  pub long : (items : List (Item Instr (Piece Instr Handler))) → length (laid_code instr_codes items) ≡ moved_to items (length items)
  pub counted : (m : Marks Block Handler) (code : List Instr) → length (marked_items {X = Block} instr_codes m code) ≡ first_of m (length code)
  pub arrives : (m : Marks Block Handler) → OnlyInstead m → (i : ℕ) → arrive m i ≡ i
  pub stands : (m : Marks Block Handler) → OnlyInstead m → (i : ℕ) → stand m i ≡ i
  pub last : (m : Marks Block Handler) (i : ℕ) → suc (stand m i) ≡ first_of m (suc i)
  pub alone : (p : Program) (choices : List Choice) → OnlyInstead (new_marks p choices)
  pub instead : (p : Program) (choices : List Choice) (i : ℕ) → (new_marks p choices).instead i ≡ chosen_at (blocks_of p.instrs choices) i

module _ (laws : Laws) (p : Program) (choices : List Choice) where
  abbrev m : Marks Block Handler
  m = new_marks p choices

  abbrev items : List (Item Instr (Piece Instr Handler))
  items = new_items p choices

  place_is : (i : ℕ) → new_place p choices i ≡ moved_to items i
  place_is i = ap (moved_to items) (laws.stands m (laws.alone p choices) i)

  item_is : (i : ℕ) (a : Instr) (choice : Choice) → slice_get p.instrs i ≡ Some a → slice_get choices i ≡ Some choice
      → slice_get items i ≡ Some (with_piece (item_of m i a (option_map block_of (code_by a choice))))
  item_is i a choice here there =
      items_are m (laws.alone p choices) p.instrs i a here
      ∙ ap (λ (o : Option Block). Some (with_piece (item_of m i a o))) (laws.instead p choices i ∙ blocks_at p.instrs choices i a choice here there)

  pub stays : (i : ℕ) (a : Instr) → slice_get p.instrs i ≡ Some a → slice_get choices i ≡ Some Stays
      → slice_get (laid_code instr_codes items) (new_place p choices i) ≡ Some (redirected (new_place p choices) a)
  unfolding item_of
  stays i a here there =
      let alone = laws.alone p choices in
      let twice = redirected_twice (new_place p choices) (moved_to items) (arrive m)
      (λ t. ap (moved_to items) (laws.stands m alone t ∙ sym (laws.arrives m alone t))) a in
      let read = laws.body items i 0 (Keeps 0 (redirected (arrive m) a)) (redirected (moved_to items) (redirected (arrive m) a)) (item_is i a Stays here there) refl in
      ap (slice_get (laid_code instr_codes items)) (place_is i ∙ omega arith) ∙ read ∙ ap Some (sym twice)

  pub behind : (i : ℕ) (a : Instr) → slice_get p.instrs i ≡ Some a → slice_get choices i ≡ Some Stays → new_place p choices (suc i) ≡ suc (new_place p choices i)
  unfolding item_of
  behind i a here there =
      let next = laws.begins items i (Keeps 0 (redirected (arrive m) a)) (item_is i a Stays here there) in
      omega (arith, place_is (suc i), place_is i, next)

  pub drops : (i : ℕ) (a : Instr) → slice_get p.instrs i ≡ Some a → slice_get choices i ≡ Some Drops → new_place p choices (suc i) ≡ new_place p choices i
  unfolding item_of
  drops i a here there =
      let next = laws.begins items i (Puts 0 (piece_of (block_of []))) (item_is i a Drops here there) in
      omega (arith, place_is (suc i), place_is i, next)

  firsts : (i : ℕ) → first_of m i ≡ i
  firsts zero = refl
  firsts (suc i) = sym (laws.last m i) ∙ ap suc (laws.stands m (laws.alone p choices) i)

  pub ends : new_place p choices (length p.instrs) ≡ length (laid_code instr_codes items)
  ends =
      let count : length items ≡ length p.instrs = length-map (marked_items instr_codes m p.instrs) with_piece ∙ laws.counted m p.instrs ∙ firsts (length p.instrs) in
      place_is (length p.instrs) ∙ ap (moved_to items) (sym count) ∙ sym (laws.long items)

  pub handlers : length (laid_handlers instr_codes items (marked_handlers instr_codes m p.handlers)) ≤ length p.handlers
  handlers =
      let own = no_own m (laws.alone p choices) (λ i. subst Bare (sym (laws.instead p choices i)) (bare_at p.instrs choices i)) p.instrs in
      rw own (let less = filtered instr_codes.ranges (map (instr_codes.move (moved_to items) (shut items) (moved_to items)) (marked_handlers instr_codes m p.handlers)) in
      omega (
        arith,
        less,
        length-map (marked_handlers instr_codes m p.handlers) (instr_codes.move (moved_to items) (shut items) (moved_to items)),
        length-map p.handlers (λ (h : Handler). instr_codes.move (first_of m) (first_of m) (entry_target m (m.entry_of h)) h),
      ))
