-- What is asked of a method of which some instructions give way, by its own indexes.
use Rattle.std.proofs.Common.{◌≡◌, ℕ, ◌<◌, List, length, None, Bool, option_map, sym, ap, subst, ◌∙◌}
use Rattle.std.specs.List.{AllByRecursion}
use Rattle.je_machine.specs.Operation.{Operation, Handler, Program}
use Rattle.je_machine.specs.Frame.{Frame}
use Rattle.je_machine.specs.Slots.{UsesBelow}
use Rattle.je_machine.specs.Step.{Goes}
use Rattle.je_splice.specs.Laid.{Fragment, reference_of, FitsAnywhere, Fits}
use Rattle.je_splice.specs.Layout.{Item, operation_codes}
use Rattle.je_splice.specs.Mapped.{mapped_item}
use Rattle.je_splice.specs.Marks.{Marks, OnlyInstead, EachPut, marked_items, replaced, IsKeptBy}
use Rattle.je_splice.specs.Reference.{Reference, take_reference}
use Rattle.je_splice.specs.Resolved.{fragment_items}
use Rattle.je_splice.proofs.FitLemmas.{items_fit}
use Rattle.je_splice.proofs.LayoutLemmas.{mapped_length}
use Rattle.je_splice.proofs.MarksLemmas.{first_alone, marked_length}
use Rattle.je_splice.proofs.ReplacedLemmas.{handlers_are, marked_is}

pub replaced_fits : {Y : Type 0} (fragment_of : Y → Fragment) (limit : ℕ) (ok : ℕ → Frame → Bool) (n : Marks Y Handler) (p : Program) → OnlyInstead n → ((h : Handler) → n.entry_of h ≡ None)
    → AllByRecursion (UsesBelow limit) p.operations → EachPut (λ (y : Y). FitsAnywhere limit (fragment_of y)) n → IsKeptBy ok p (λ i. option_map fragment_of (n.instead i))
    → Fits limit ok p.parameters (fragment_items fragment_of n p.operations) p.handlers
replaced_fits fragment_of limit ok n p only none uses puts kept =
    let items : List (Item Operation Fragment) = fragment_items fragment_of n p.operations in
    let count : length items ≡ length p.operations =
    mapped_length (mapped_item (λ (o : Operation). o) fragment_of) (marked_items operation_codes n p.operations) ∙ marked_length operation_codes n p.operations ∙ first_alone n only (length p.operations) in
    let same : reference_of p.parameters items p.handlers ≡ replaced p (λ i. option_map fragment_of (n.instead i)) =
    ap (reference_of p.parameters items) (sym (handlers_are fragment_of n only none p.handlers)) ∙ marked_is fragment_of n only none p in
    record {
      each = λ place item there. items_fit fragment_of limit n puts (ok place) p.operations uses place item there;
      inside = λ place frame h. subst (λ (most : ℕ). place < most) (sym count) (kept.inside place frame h);
      kept = λ classes bound left s t h e. kept.kept classes bound left s t h (subst (λ (r : Reference). take_reference r classes bound s ≡ Goes left t) same e);
    }
