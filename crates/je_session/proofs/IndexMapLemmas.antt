-- Where the instructions of a spliced program go.
use Rattle.std.proofs.Common.{◌≡◌, ℕ, zero, suc, ◌+◌, ◌<◌, ◌≤◌, List, [], ◌∷◌, ◌++◌, length, Some, None, refl, sym, ap, ◌∙◌, subst, add-one, arith, length-append}
use Rattle.std.specs.Prelude.{slice_get, slice_index, map, Option, option_and_then}
use Rattle.std.specs.List.{AllByRecursion}
use Rattle.std.proofs.lemmas.List.{get_or-append-add}
use Rattle.std.proofs.lemmas.Option.{slice_get-get_or, slice_get_within, slice_get_past, get_or_from_slice_get}
use Rattle.je_machine.specs.Operation.{Operation, Do, Load, Store, Increment, Branch, Goto, Switch, Return, Program}
use Rattle.je_machine.specs.Moved.{retargeted}
use Rattle.je_session.specs.declared.plan.Fragment.{Fragment}
use Rattle.je_session.specs.declared.plan.Fragment.TheVariants.{Empty, Proceed}
use Rattle.je_session.specs.declared.plan.Rule.{Rule}
use Rattle.je_session.specs.Editable.{IsPlain}
use Rattle.je_session.specs.KeepsLines.{IsIndexMap, IsAllPieces}
use Rattle.je_session.specs.Splice.{new_instrs, new_places, chosen_fragment}
use Rattle.je_session.proofs.SpliceLemmas.{new_instrs-first}

-- the operations with a block in the place of each one that a rule chooses
abbrev pub new_operations : List Rule → List Operation → List Operation
new_operations rules operations = new_instrs (map (chosen_fragment rules) operations) operations

-- what stands in the place of one operation
abbrev pub instead : List Rule → Operation → List Operation
instead rules operation = new_instrs (chosen_fragment rules operation ∷ []) (operation ∷ [])

-- where the operation at an index goes: behind all that stands in the place of those before it
abbrev pub new_index : List Rule → ℕ → List Operation → ℕ
new_index rules zero operations = 0
new_index rules (suc i) [] = 0
new_index rules (suc i) (operation ∷ operations) = length (instead rules operation) + new_index rules i operations

new_index-end : (rules : List Rule) (operations : List Operation) → new_index rules (length operations) operations ≡ length (new_operations rules operations)
new_index-end rules [] = refl
new_index-end rules (o ∷ operations) =
    ap (λ n. length (instead rules o) + n) (new_index-end rules operations)
    ∙ sym (length-append (instead rules o) (new_operations rules operations))
    ∙ ap length (sym (new_instrs-first (chosen_fragment rules o) (map (chosen_fragment rules) operations) o operations))

new_index-rises : (rules : List Rule) (i j : ℕ) (operations : List Operation) → i ≤ j → new_index rules i operations ≤ new_index rules j operations
new_index-rises rules zero j operations le = omega arith
new_index-rises rules (suc i) zero operations le = absurd (omega arith)
new_index-rises rules (suc i) (suc j) [] le = omega arith
new_index-rises rules (suc i) (suc j) (o ∷ operations) le =
    let rest = new_index-rises rules i j operations (omega arith) in
    omega (arith, rest)

-- what stands behind a list
slice_get-append-add : {A : Type 0} (xs ys : List A) (n : ℕ) (y : A) → slice_get ys n ≡ Some y → slice_get (xs ++ ys) (length xs + n) ≡ Some y
slice_get-append-add xs ys n y here =
    let within : length xs + n < length (xs ++ ys) = let k = slice_get_within ys n y here in omega (arith, k, length-append xs ys) in
    slice_get-get_or (xs ++ ys) (length xs + n) y within ∙ ap Some (get_or-append-add xs ys n y ∙ get_or_from_slice_get ys n y y here)

-- a plain operation has no targets
plain_stays : (to : ℕ → ℕ) (operation : Operation) → IsPlain operation → retargeted to operation ≡ operation
plain_stays to (Do basic) plain = refl
plain_stays to (Load kind slot) plain = refl
plain_stays to (Store kind slot) plain = refl
plain_stays to (Increment slot by) plain = refl
plain_stays to (Branch condition target) plain = absurd plain
plain_stays to (Goto target) plain = absurd plain
plain_stays to (Switch cases fallback) plain = absurd plain
plain_stays to (Return kind) plain = refl

pub plain_at : (operations : List Operation) (i : ℕ) (operation : Operation) → AllByRecursion IsPlain operations → slice_get operations i ≡ Some operation → IsPlain operation
plain_at [] i operation all here = absurd cc
plain_at (o ∷ operations) zero operation all here = let same : o ≡ operation = cc in subst IsPlain same all.0
plain_at (o ∷ operations) (suc i) operation all here = plain_at operations i operation all.1 here

module _ (rules : List Rule) where
  -- an operation that is not chosen stands alone in its place
  pub instead-unchosen : (operation : Operation) → chosen_fragment rules operation ≡ None → instead rules operation ≡ operation ∷ []
  instead-unchosen operation none = ap (λ choice. new_instrs (choice ∷ []) (operation ∷ [])) none

  pub stays_here : (i : ℕ) (operations : List Operation) (operation : Operation) → slice_get operations i ≡ Some operation → instead rules operation ≡ operation ∷ []
      → slice_get (new_operations rules operations) (new_index rules i operations) ≡ Some operation
  stays_here i [] operation here alone = absurd cc
  stays_here zero (o ∷ operations) operation here alone =
      let same : operation ≡ o = cc in
      rw (new_instrs-first (chosen_fragment rules o) (map (chosen_fragment rules) operations) o operations, subst (λ p. instead rules p ≡ p ∷ []) same alone) (ap Some (sym same))
  stays_here (suc i) (o ∷ operations) operation here alone =
      rw (new_instrs-first (chosen_fragment rules o) (map (chosen_fragment rules) operations) o operations)
      (slice_get-append-add (instead rules o) (new_operations rules operations) (new_index rules i operations) operation (stays_here i operations operation here alone))

  -- where the next operation goes
  pub next_index : (i : ℕ) (operations : List Operation) (operation : Operation) → slice_get operations i ≡ Some operation
      → new_index rules (suc i) operations ≡ new_index rules i operations + length (instead rules operation)
  next_index i [] operation here = absurd cc
  next_index zero (o ∷ operations) operation here =
      let same : operation ≡ o = cc in
      let lengths = ap (λ p. length (instead rules p)) same in
      omega (arith, lengths)
  next_index (suc i) (o ∷ operations) operation here =
      let rest = next_index i operations operation here in
      omega (arith, rest)

  -- behind all of them is behind all of the new ones
  index_past : (i : ℕ) (operations : List Operation) → length operations ≤ i → new_index rules i operations ≡ length (new_operations rules operations)
  index_past zero [] past = refl
  index_past zero (o ∷ operations) past = absurd (omega arith)
  index_past (suc i) [] past = refl
  index_past (suc i) (o ∷ operations) past =
      ap (λ n. length (instead rules o) + n) (index_past i operations (omega arith))
      ∙ sym (length-append (instead rules o) (new_operations rules operations))
      ∙ ap length (sym (new_instrs-first (chosen_fragment rules o) (map (chosen_fragment rules) operations) o operations))

  missing : (i : ℕ) (operations : List Operation) → slice_get operations i ≡ None → length operations ≤ i
  missing i [] none = omega arith
  missing zero (o ∷ operations) none = absurd cc
  missing (suc i) (o ∷ operations) none = let rest = missing i operations none in omega (arith, rest)

  pub none_past : (i : ℕ) (operations : List Operation) → slice_get operations i ≡ None → slice_get (new_operations rules operations) (new_index rules i operations) ≡ None
  none_past i operations none =
      let past = index_past i operations (missing i operations none) in
      slice_get_past (new_operations rules operations) (new_index rules i operations) (omega (arith, past))

-- The spliced program has its operations where the map says; what stands for an instruction ends where the next one goes.
pub index_map : (p q : Program) (rules : List Rule) → AllByRecursion IsPlain p.operations → q.operations ≡ new_operations rules p.operations
    → IsIndexMap p rules q (λ i. new_index rules i p.operations) (λ i. new_index rules (i + 1) p.operations)
index_map p q rules plain new_is = record {
  rises = λ i j le. new_index-rises rules i j p.operations le;
  piece = λ i lt. (new_index-rises rules i (i + 1) p.operations (omega arith), omega arith);
  within = let end = new_index-end rules p.operations ∙ ap length (sym new_is) in omega (arith, end);
  stays = λ i operation here unchosen.
      let none : chosen_fragment rules operation ≡ None = subst (λ o. option_and_then (chosen_fragment rules) o ≡ None) here unchosen in
      record {
        here =
            ap (λ (l : List Operation). slice_get l (new_index rules i p.operations)) new_is
            ∙ stays_here rules i p.operations operation here (instead-unchosen rules operation none)
            ∙ ap Some (sym (plain_stays (λ k. new_index rules k p.operations) operation (plain_at p.operations i operation plain here)));
        alone = ap (λ k. new_index rules k p.operations) (add-one i) ∙ next_index rules i p.operations operation here
            ∙ ap (λ l. new_index rules i p.operations + length l) (instead-unchosen rules operation none);
      };
}

-- and these are all of it
pub all_pieces : (p q : Program) (rules : List Rule) → q.operations ≡ new_operations rules p.operations
    → IsAllPieces p q (λ i. new_index rules i p.operations) (λ i. new_index rules (i + 1) p.operations)
all_pieces p q rules new_is = record {
  before = refl;
  between = λ i lt. refl;
  behind = new_index-end rules p.operations ∙ ap length (sym new_is);
}

-- ---- the new indexes as a list

-- what stands in the place of one is as long, whatever it is
one_length : {A B : Type 0} (choice : Option Fragment) (x : A) (y : B) → length (new_instrs (choice ∷ []) (x ∷ [])) ≡ length (new_instrs (choice ∷ []) (y ∷ []))
one_length None x y = refl
one_length (Some Empty) x y = refl
one_length (Some Proceed) x y = refl

-- and so is all of it
pub new_instrs-long : {A B : Type 0} (chosen : List (Option Fragment)) (xs : List A) (ys : List B) → length xs ≡ length ys → length (new_instrs chosen xs) ≡ length (new_instrs chosen ys)
new_instrs-long [] xs ys same = same
new_instrs-long (choice ∷ chosen) [] [] same = refl
new_instrs-long (choice ∷ chosen) [] (y ∷ ys) same = absurd (omega arith)
new_instrs-long (choice ∷ chosen) (x ∷ xs) [] same = absurd (omega arith)
new_instrs-long (None ∷ chosen) (x ∷ xs) (y ∷ ys) same = ap suc (new_instrs-long chosen xs ys (omega arith))
new_instrs-long (Some Empty ∷ chosen) (x ∷ xs) (y ∷ ys) same = new_instrs-long chosen xs ys (omega arith)
new_instrs-long (Some Proceed ∷ chosen) (x ∷ xs) (y ∷ ys) same = ap suc (new_instrs-long chosen xs ys (omega arith))

-- the new index of each instruction, and of the end
pub place_is : {A : Type 0} (rules : List Rule) (at i : ℕ) (operations : List Operation) (xs : List A) → length operations ≡ length xs → i ≤ length xs
    → slice_index (new_places at (map (chosen_fragment rules) operations) xs) i ≡ at + new_index rules i operations
place_is rules at zero operations [] same le = omega arith
place_is rules at (suc i) operations [] same le = absurd (omega arith)
place_is rules at i [] (x ∷ xs) same le = absurd (omega arith)
place_is rules at zero (o ∷ operations) (x ∷ xs) same le = omega arith
place_is rules at (suc i) (o ∷ operations) (x ∷ xs) same le =
    let long = one_length (chosen_fragment rules o) x o in
    let rest = place_is rules (at + length (new_instrs (chosen_fragment rules o ∷ []) (x ∷ []))) i operations xs (omega arith) (omega arith) in
    rest ∙ omega (arith, long)
