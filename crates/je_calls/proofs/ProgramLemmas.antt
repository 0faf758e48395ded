-- The program in which calls are replaced is one.
use Rattle.std.proofs.Common.{◌≡◌, ℕ, zero, suc, ◌+◌, ◌-◌, ◌<◌, ◌≤◌, List, [], ◌∷◌, ◌++◌, length, map, Option, Some, None, Bool, true, false, cond, option_map, refl, sym, ap, subst, ◌∙◌, arith}
use Rattle.std.specs.Prelude.{IsTrue, IfSome, slice_get, filter}
use Rattle.std.specs.List.{AllByRecursion, AllZip}
use Rattle.std.proofs.lemmas.Bool.{ltb-true}
use Rattle.je_machine.specs.Operation as machine
use Rattle.je_machine.specs.Operation.{Operation, Program}
use Rattle.je_machine.specs.Machine.{covers}
use Rattle.je_machine.specs.Moved.{retargeted}
use Rattle.je_instr.specs.declared.instr.Instr.{Instr}
use Rattle.je_instr.specs.declared.program.Handler.{Handler}
use Rattle.je_instr.specs.Allowed.{IsAllowed}
use Rattle.je_instr.specs.Assembling.{IsInRange, IsWithinProgram, IsProgram, IsCaught, AllowsProgram}
use Rattle.je_instr.specs.CodeProgram.{HasTargets, IsHandlerOf}
use Rattle.je_instr.specs.Resolves.{Resolves}
use Rattle.je_splice.specs.Block.{Piece}
use Rattle.je_splice.specs.InstrCodes.{redirected, moved_entry_of, covers_some, instr_codes}
use Rattle.je_splice.specs.Layout.{Item, moved_to, shut, laid_code, own_from, laid_handlers}
use Rattle.je_splice.specs.Marks.{OnlyInstead, first_of, arrive, marked_handlers}
use Rattle.je_splice.specs.Put.{replacements}
use Rattle.je_splice.proofs.AlikeLemmas.{zip_length}
use Rattle.je_splice.proofs.CatcherLemmas.{covers_by}
use Rattle.je_splice.proofs.ChoiceLemmas.{all_stand, chosen_there}
use Rattle.je_splice.proofs.InstrLemmas.{resolves_moved}
use Rattle.je_splice.proofs.LayoutLemmas.{get_within, laid_length, rises, shut_within}
use Rattle.je_splice.proofs.MarksLemmas.{first_alone, arrive_alone}
use Rattle.je_splice.proofs.ReplacedLemmas.{stand_instead}
use Rattle.je_put.specs.Placing.{completes}
use Rattle.je_shape.specs.Least.{Assignment, targets_of, next_of}
use Rattle.je_keep.specs.MethodCode.{AreFaultless}
use Rattle.je_calls.specs.declared.rule.Choice.{Choice}
use Rattle.je_calls.specs.declared.rule.Choice.TheVariants.{Stays, Drops, Gives}
use Rattle.je_calls.specs.declared.rule.Fragment.{Fragment}
use Rattle.je_calls.specs.declared.rule.Fragment.TheVariants.{Empty, Proceed}
use Rattle.je_calls.specs.declared.rule.Rule.{Rule}
use Rattle.je_calls.specs.Chosen.{is_reached, chosen_fragment, chosen_as, choice_if, choice_of, choices_from, IsPlain}
use Rattle.je_calls.specs.Blocks.{code_by, block_of, blocks_of}
use Rattle.je_calls.specs.Method.{Task, IsProgramOf, method_with, ArePlain}
use Rattle.je_calls.specs.Result.{new_marks, new_items, new_program}
use Rattle.je_calls.proofs.FlowLemmas.{leads, begins, next_within, plain_next, each_is, each_behind}
use Rattle.je_calls.proofs.ItemLemmas.{Marking, item_of, items_of, items_long, items_are, block_at, begins_by, width_by, zip_at, IsFine, fine_code, fine_own, fine_item, fine_items}
use Rattle.je_calls.proofs.TargetLemmas.{targets_back, plain_back, targets_moved, targets_both, has_each, each_has, range_moved}

-- ---- choices

chosen_reached : (b : Bool) (rules : List Rule) (o : Operation) → b ≡ true → choice_if b rules o ≡ chosen_as (chosen_fragment rules o)
chosen_reached true rules o e = refl
chosen_reached false rules o e = absurd cc

stays_reached : (b : Bool) (rules : List Rule) (o : Operation) → choice_if b rules o ≡ Stays → b ≡ true
stays_reached true rules o e = refl
stays_reached false rules o e = absurd cc

gives_reached : (b : Bool) (rules : List Rule) (o : Operation) (fragment : Fragment) → choice_if b rules o ≡ Gives fragment → (b ≡ true) × (chosen_fragment rules o ≡ Some fragment)
gives_reached true rules o fragment e = (refl, by_chosen (chosen_fragment rules o) e) where
  by_chosen : (f : Option Fragment) → chosen_as f ≡ Gives fragment → f ≡ Some fragment
  by_chosen None e = absurd cc
  by_chosen (Some g) e = let same : g ≡ fragment = cc in ap Some same
gives_reached false rules o fragment e = absurd cc

drops_else : (b : Bool) (rules : List Rule) (o : Operation) → b ≡ false → choice_if b rules o ≡ Drops
drops_else true rules o e = absurd cc
drops_else false rules o e = refl

filter_by : {A : Type 0} (P : A → Type 0) (a : A) (xs : List A) (t : Bool) → (t ≡ true → P a) → AllByRecursion P xs → AllByRecursion P (cond t (a ∷ xs) xs)
filter_by P a xs true f h = (f refl, h)
filter_by P a xs false f h = h

filtered : {A : Type 0} (P : A → Type 0) (q : A → Bool) (xs : List A) → AllByRecursion (λ a. q a ≡ true → P a) xs → AllByRecursion P (filter q xs)
filtered P q [] h = tt
filtered P q (a ∷ xs) h = filter_by P a (filter q xs) (q a) h.0 (filtered P q xs h.1)

mapped_each : {A B : Type 0} (P : B → Type 0) (f : A → B) (xs : List A) → AllByRecursion (λ a. P (f a)) xs → AllByRecursion P (map f xs)
mapped_each P f [] h = tt
mapped_each P f (a ∷ xs) h = (h.0, mapped_each P f xs h.1)

shut_by : (items : List (Item Instr (Piece Instr Handler))) (n : ℕ) → shut items n ≤ moved_to items n
shut_by items zero = omega arith
shut_by items (suc n) = shut_within items n

module _ (t : Task) (program : Program) (x : Assignment) (is : IsProgramOf t program) where
  abbrev choices : List Choice
  choices = choices_from t.rules x 0 program.operations

  abbrev marks : Marking
  marks = new_marks t.code choices

  abbrev items : List (Item Instr (Piece Instr Handler))
  items = items_of marks 0 t.code.instrs

  abbrev to : ℕ → ℕ
  to = moved_to items

  abbrev count : ℕ
  count = length t.code.instrs

  abbrev IsHere : ℕ → Type 0
  IsHere at = is_reached (x at) ≡ true

  pub only : OnlyInstead marks
  only = stand_instead (λ (h : Handler). h.target) completes (replacements 0 (blocks_of t.code.instrs choices)) (all_stand 0 (blocks_of t.code.instrs choices))

  many : length program.operations ≡ count
  many = sym (zip_length (Resolves t.consts) t.code.instrs program.operations is.operations)

  items_are_these : new_items t.code choices ≡ items
  items_are_these = items_are marks only 0 t.code.instrs

  instead : (i : ℕ) (a : Instr) (o : Operation) → slice_get t.code.instrs i ≡ Some a → slice_get program.operations i ≡ Some o
      → marks.instead i ≡ option_map block_of (code_by a (choice_of t.rules (x i) o))
  instead i a o e f =
      let none : 0 + i ≡ i = omega arith in
      chosen_there i (blocks_of t.code.instrs choices) ∙ block_at t.rules x 0 t.code.instrs program.operations i a o e f
      ∙ ap (λ (n : ℕ). option_map block_of (code_by a (choice_of t.rules (x n) o))) none

  widens : (i : ℕ) (a : Instr) (o : Operation) → slice_get t.code.instrs i ≡ Some a → slice_get program.operations i ≡ Some o
      → to (suc i) ≡ to i + width_by (choice_of t.rules (x i) o)
  widens i a o e f = begins_by marks only t.code.instrs i a (choice_of t.rules (x i) o) e (instead i a o e f)

  -- an instruction and its operation at each index of the code
  there_by : (i : ℕ) (got : Option Instr) → slice_get t.code.instrs i ≡ got → i < count → (a : Instr) × (slice_get t.code.instrs i ≡ Some a)
  there_by i None e less = absurd (get_within t.code.instrs i less e)
  there_by i (Some a) e less = (a, e)

  abbrev At : ℕ → Type 0
  At i = (a : Instr) × (slice_get t.code.instrs i ≡ Some a) × (o : Operation) × (slice_get program.operations i ≡ Some o) × Resolves t.consts a o

  at : (i : ℕ) (a : Instr) → slice_get t.code.instrs i ≡ Some a → At i
  at i a e = let (o, f, r) = zip_at (Resolves t.consts) t.code.instrs program.operations i a is.operations e in (a, e, o, f, r)

  within : (i : ℕ) → i < count → At i
  within i less = let (a, e) = there_by i (slice_get t.code.instrs i) refl less in at i a e

  -- ---- something stands at or behind what is reached

  module _ (faultless : AreFaultless (method_with t program) x) (plain : ArePlain t.rules x program) where
    is_plain : (i : ℕ) (o : Operation) (fragment : Fragment) → slice_get program.operations i ≡ Some o → IsHere i → chosen_fragment t.rules o ≡ Some fragment → IsPlain o
    is_plain i o fragment f r e = subst (λ (c : Option Fragment). IfSome c (λ fragment. IsPlain o)) e (plain i o f r)

    chosen_is : (i : ℕ) (o : Operation) (f : Option Fragment) → IsHere i → chosen_fragment t.rules o ≡ f → choice_of t.rules (x i) o ≡ chosen_as f
    chosen_is i o f r e = chosen_reached (is_reached (x i)) t.rules o r ∙ ap chosen_as e

    wide : (i : ℕ) (h : At i) (c : Choice) → choice_of t.rules (x i) h.2 ≡ c → to (suc i) ≡ to i + width_by c
    wide i h c e = widens i h.0 h.2 h.1 h.3 ∙ ap (λ c. to i + width_by c) e

    step_by : (i : ℕ) (h : At i) → i < count → IsHere i → (suc i < count → IsHere (suc i) → to (suc i) < to count) → (c : Option Fragment) → chosen_fragment t.rules h.2 ≡ c → to i < to count
    step_by i h less r rest None e = let one = wide i h Stays (chosen_is i h.2 None r e) in let rise = rises items (suc i) count less in omega (arith, one, rise)
    step_by i h less r rest (Some Proceed) e =
        let one = wide i h (Gives Proceed) (chosen_is i h.2 (Some Proceed) r e) in let rise = rises items (suc i) count less in omega (arith, one, rise)
    step_by i h less r rest (Some Empty) e =
        let o = h.2 in
        let none = wide i h (Gives Empty) (chosen_is i o (Some Empty) r e) in
        let action = is_plain i o Empty h.3 r e in
        let inside : suc i < length program.operations = next_within t program x i o faultless h.3 r action in
        let next : AllByRecursion (λ to. to < length program.operations → IsHere to) (suc i ∷ []) =
        subst (AllByRecursion (λ to. to < length program.operations → IsHere to)) (plain_next o i action) (leads t program x faultless.least.closed i o h.3 r).to in
        let more = rest (omega (arith, inside, many)) (next.0 inside) in
        omega (arith, none, more)

    behind : (d i : ℕ) → i + d ≡ count → i < count → IsHere i → to i < to count
    behind zero i sum less r = absurd (omega (arith, sum, less))
    behind (suc d) i sum less r =
        let h = within i less in
        step_by i h less r (λ inside next. behind d (suc i) (omega (arith, sum)) inside next) (chosen_fragment t.rules h.2) refl

    pub stands_behind : (i : ℕ) → i < count → IsHere i → to i < to count
    stands_behind i less r = behind (count - i) i (omega (arith, less)) less r

  pub new_long : length (new_program t.code choices).instrs ≡ to count
  new_long =
      ap (λ l. length (laid_code instr_codes l)) items_are_these ∙ laid_length instr_codes items
      ∙ ap (λ (n : ℕ). to n) (items_long marks 0 t.code.instrs)

  pub some_stands : AreFaultless (method_with t program) x → ArePlain t.rules x program → 0 < count → 0 < length (new_program t.code choices).instrs
  some_stands faultless plain some =
      let r = begins t program x faultless.least.closed (omega (arith, some, many)) in
      let more = stands_behind faultless plain 0 some r in
      omega (arith, more, new_long)

  -- ---- each new instruction

  module _ (P : Instr → Type 0)
      (stays : (i : ℕ) (a : Instr) (o : Operation) → slice_get t.code.instrs i ≡ Some a → slice_get program.operations i ≡ Some o → Resolves t.consts a o → IsHere i
      → P (redirected to (redirected (arrive marks) a)))
      (gives : (i : ℕ) (a : Instr) (o : Operation) → slice_get t.code.instrs i ≡ Some a → slice_get program.operations i ≡ Some o → Resolves t.consts a o → IsHere i
      → chosen_fragment t.rules o ≡ Some Proceed → (n : ℕ) → P (redirected (λ target. n + target) a)) where
    one_fine : (i : ℕ) (a : Instr) → slice_get t.code.instrs i ≡ Some a → IsFine P to (item_of marks i a)
    one_fine i a e =
        let (o, f, r) = zip_at (Resolves t.consts) t.code.instrs program.operations i a is.operations e in
        fine_item P to marks only i a (choice_of t.rules (x i) o) (instead i a o e f)
        (λ c. stays i a o e f r (stays_reached (is_reached (x i)) t.rules o c))
        (λ c. let both = gives_reached (is_reached (x i)) t.rules o Proceed c in gives i a o e f r both.0 both.1)

    pub all_fine : AllByRecursion (IsFine P to) items
    all_fine = fine_items P to marks only 0 t.code.instrs
        (λ i a e. let none : i ≡ 0 + i = omega arith in subst (λ (n : ℕ). IsFine P to (item_of marks n a)) none (one_fine i a e))

    pub all_new : AllByRecursion P (new_program t.code choices).instrs
    all_new = subst (λ l. AllByRecursion P (laid_code instr_codes l)) (sym items_are_these) (fine_code P to 0 0 items all_fine)

  each_at : {A : Type 0} (P : A → Type 0) (xs : List A) (i : ℕ) (a : A) → AllByRecursion P xs → slice_get xs i ≡ Some a → P a
  each_at P [] i a h e = absurd cc
  each_at P (b ∷ xs) zero a h e = let same : b ≡ a = cc in subst P same h.0
  each_at P (b ∷ xs) (suc i) a h e = each_at P xs i a h.1 e

  pub operands_stay : AllByRecursion IsInRange t.code.instrs → AllByRecursion IsInRange (new_program t.code choices).instrs
  operands_stay all = all_new IsInRange
      (λ i a o e f r here. range_moved to (redirected (arrive marks) a) (range_moved (arrive marks) a (each_at IsInRange t.code.instrs i a all e)))
      (λ i a o e f r here c n. range_moved (λ target. n + target) a (each_at IsInRange t.code.instrs i a all e))

  pub allowed_stay : AllByRecursion (IsAllowed t.consts) (new_program t.code choices).instrs
  allowed_stay = all_new (IsAllowed t.consts)
      (λ i a o e f r here.
      (resolves_moved t.consts to (redirected (arrive marks) a) (retargeted (arrive marks) o) (resolves_moved t.consts (arrive marks) a o r)).allowed)
      (λ i a o e f r here c n. (resolves_moved t.consts (λ target. n + target) a o r).allowed)

  module _ (faultless : AreFaultless (method_with t program) x) (plain : ArePlain t.rules x program) where
    target_stands : (n : ℕ) → (n < length program.operations → IsHere n) → n < count → to (arrive marks n) < to count
    target_stands n here less =
        let more = stands_behind faultless plain n less (here (omega (arith, less, many))) in
        let same : to (arrive marks n) ≡ to n = ap to (arrive_alone marks only n) in
        omega (arith, more, same)

    targets_stay_at : (i : ℕ) (a : Instr) (o : Operation) → HasTargets count a → slice_get program.operations i ≡ Some o → Resolves t.consts a o → IsHere i
        → HasTargets (to count) (redirected to (redirected (arrive marks) a))
    targets_stay_at i a o has f r here =
        let led = each_behind (λ n. n < length program.operations → IsHere n) (next_of i o) (targets_of o) (leads t program x faultless.least.closed i o f here).to in
        let before = targets_both (λ n. n < length program.operations → IsHere n) (λ n. n < count) (λ n. to (arrive marks n) < to count) target_stands a
        (targets_back (λ n. n < length program.operations → IsHere n) t.consts a o r.becomes led) (has_each count a has) in
        each_has (to count) (redirected to (redirected (arrive marks) a))
        (targets_moved (λ n. to n < to count) (λ n. n < to count) to (λ n h. h) (redirected (arrive marks) a)
        (targets_moved (λ n. to (arrive marks n) < to count) (λ n. to n < to count) (arrive marks) (λ n h. h) a before))

    targets_put : (i : ℕ) (a : Instr) (o : Operation) → slice_get program.operations i ≡ Some o → Resolves t.consts a o → IsHere i
        → chosen_fragment t.rules o ≡ Some Proceed → (n : ℕ) → HasTargets (to count) (redirected (λ target. n + target) a)
    targets_put i a o f r here c n =
        each_has (to count) (redirected (λ target. n + target) a)
        (targets_moved (λ n. ⊥) (λ n. n < to count) (λ target. n + target) (λ n h. absurd h) a
        (plain_back (λ n. ⊥) t.consts a o r.becomes (is_plain faultless plain i o Proceed f here c)))

    pub targets_stay : AllByRecursion (HasTargets count) t.code.instrs
        → AllByRecursion (HasTargets (length (new_program t.code choices).instrs)) (new_program t.code choices).instrs
    targets_stay all = subst (λ (n : ℕ). AllByRecursion (HasTargets n) (new_program t.code choices).instrs) (sym new_long)
        (all_new (HasTargets (to count))
        (λ i a o e f r here. targets_stay_at i a o (each_at (HasTargets count) t.code.instrs i a all e) f r here)
        (λ i a o e f r here c n. targets_put i a o f r here c n))

  -- ---- each new entry of the exception table

  abbrev final : Handler → Handler
  final h = moved_entry_of to (shut items) to (moved_entry_of (first_of marks) (first_of marks) (arrive marks) h)

  none_own : own_from instr_codes 0 items ≡ []
  none_own = fine_own (λ a. Unit {0}) to 0 items (all_fine (λ a. Unit {0}) (λ i a o e f r here. tt) (λ i a o e f r here c n. tt))

  abbrev laid_by : List Handler → List Handler
  laid_by own = filter covers_some (own ++ map (moved_entry_of to (shut items) to) (marked_handlers instr_codes marks t.code.handlers))

  pub handlers_are : (P : Handler → Type 0) → AllByRecursion (λ (h : Handler). covers_some (final h) ≡ true → P (final h)) t.code.handlers
      → AllByRecursion P (new_program t.code choices).handlers
  handlers_are P h =
      let kept : AllByRecursion P (laid_by []) =
      filtered P covers_some (map (moved_entry_of to (shut items) to) (marked_handlers instr_codes marks t.code.handlers))
      (mapped_each (λ (h : Handler). covers_some h ≡ true → P h) (moved_entry_of to (shut items) to) (marked_handlers instr_codes marks t.code.handlers)
      (mapped_each (λ (h : Handler). covers_some (moved_entry_of to (shut items) to h) ≡ true → P (moved_entry_of to (shut items) to h))
      (moved_entry_of (first_of marks) (first_of marks) (arrive marks)) t.code.handlers h)) in
      subst (λ l. AllByRecursion P (laid_handlers instr_codes l (marked_handlers instr_codes marks t.code.handlers))) (sym items_are_these)
      (subst (λ own. AllByRecursion P (laid_by own)) (sym none_own) kept)

  pub caught_stay : AllByRecursion (IsCaught t.consts) t.code.handlers → AllByRecursion (IsCaught t.consts) (new_program t.code choices).handlers
  caught_stay all = handlers_are (IsCaught t.consts)
      (each_is (IsCaught t.consts) (λ (h : Handler). covers_some (final h) ≡ true → IsCaught t.consts (final h)) (λ h caught c. caught) t.code.handlers all)

  -- where a range is not empty, one of its instructions is reached

  abbrev pub Within : ℕ → ℕ → Type 0
  Within start end = (i : ℕ) × (start ≤ i) × (i < end) × IsHere i

  found_by : (start d : ℕ) → start + suc d ≤ count → (b : Bool) → is_reached (x (start + d)) ≡ b → to start < to (start + suc d) → (to start < to (start + d) → Within start (start + d))
      → Within start (start + suc d)
  found_by start d le true e less rest = (start + d, omega arith, omega arith, e)
  found_by start d le false e less rest =
      let (a, there, o, f, r) = within (start + d) (omega (arith, le)) in
      let next : start + suc d ≡ suc (start + d) = omega arith in
      let same : to (start + suc d) ≡ to (suc (start + d)) = ap to next in
      let wide : to (suc (start + d)) ≡ to (start + d) + 0 =
      widens (start + d) a o there f ∙ ap (λ c. to (start + d) + width_by c) (drops_else (is_reached (x (start + d))) t.rules o e) in
      let (i, low, high, here) = rest (omega (arith, less, same, wide)) in
      (i, low, omega (arith, high), here)

  found : (start d : ℕ) → start + d ≤ count → to start < to (start + d) → Within start (start + d)
  found start zero le less =
      let none : to (start + 0) ≡ to start = let e : start + 0 ≡ start = omega arith in ap to e in
      absurd (omega (arith, less, none))
  found start (suc d) le less = found_by start d le (is_reached (x (start + d))) refl less (λ k. found start d (omega (arith, le)) k)

  module _ (faultless : AreFaultless (method_with t program) x) (plain : ArePlain t.rules x program) where
    abbrev Thrown : ℕ → machine.Handler → Type 0
    Thrown i g = IsTrue (covers i g) → g.target < length program.operations → IsHere g.target

    one_handler : (h : Handler) (g : machine.Handler) → IsHandlerOf t.consts h g → IsWithinProgram count h → ((i : ℕ) → i < count → IsHere i → Thrown i g)
        → covers_some (final h) ≡ true → IsWithinProgram (to count) (final h)
    one_handler h g same old thrown c =
        let some : to (first_of marks h.start) < shut items (first_of marks h.end) = ltb-true (to (first_of marks h.start)) (shut items (first_of marks h.end)) c in
        let start : to (first_of marks h.start) ≡ to h.start = ap to (first_alone marks only h.start) in
        let end : to (first_of marks h.end) ≡ to h.end = ap to (first_alone marks only h.end) in
        let shuts = shut_by items (first_of marks h.end) in
        let rise = rises items h.end count old.within in
        let nonempty = old.some in
        let sum : h.start + (h.end - h.start) ≡ h.end = omega (arith, nonempty) in
        let (i, low, high, here) = subst (Within h.start) sum
        (found h.start (h.end - h.start) (let le = old.within in omega (arith, sum, le)) (let e : to (h.start + (h.end - h.start)) ≡ to h.end = ap to sum in omega (arith, some, start, end, shuts, e))) in
        let covered : IsTrue (covers i g) = covers_by i g (let e = same.start in omega (arith, low, e)) (let e = same.end in omega (arith, high, e)) in
        let target = old.target in
        let at_target : IsHere h.target = subst IsHere same.target (thrown i (let le = old.within in omega (arith, high, le)) here covered (let e = same.target in omega (arith, target, e, many))) in
        record {
          some = some;
          within = omega (arith, end, shuts, rise);
          target = target_stands faultless plain h.target (λ k. at_target) target;
        }

    each_handler : (hs : List Handler) (gs : List machine.Handler) → AllZip (IsHandlerOf t.consts) hs gs → AllByRecursion (IsWithinProgram count) hs
        → ((i : ℕ) → i < count → IsHere i → AllByRecursion (Thrown i) gs) → AllByRecursion (λ (h : Handler). covers_some (final h) ≡ true → IsWithinProgram (to count) (final h)) hs
    each_handler [] gs z h f = tt
    each_handler (e ∷ hs) [] z h f = absurd z
    each_handler (e ∷ hs) (g ∷ gs) z h f =
        (one_handler e g z.0 h.0 (λ i less here. let all = f i less here in all.0), each_handler hs gs z.1 h.1 (λ i less here. let all = f i less here in all.1))

    pub handlers_stay : AllByRecursion (IsWithinProgram count) t.code.handlers
        → AllByRecursion (IsWithinProgram (length (new_program t.code choices).instrs)) (new_program t.code choices).handlers
    handlers_stay all = subst (λ (n : ℕ). AllByRecursion (IsWithinProgram n) (new_program t.code choices).handlers) (sym new_long)
        (handlers_are (IsWithinProgram (to count))
        (each_handler t.code.handlers program.handlers is.handlers all
        (λ i less here. let (a, e, o, f, r) = within i less in (leads t program x faultless.least.closed i o f here).thrown)))

    pub is_program : IsProgram t.code → IsProgram (new_program t.code choices)
    is_program old = record {
      targets = targets_stay faultless plain old.targets;
      operands = operands_stay old.operands;
      handlers = handlers_stay old.handlers;
    }

  pub is_allowed : AllowsProgram t.consts t.code → AllowsProgram t.consts (new_program t.code choices)
  is_allowed old = record { operands = allowed_stay; caught = caught_stay old.caught }
