-- The first fault, and what is answered.
use Rattle.std.proofs.Common.{true, false, ◌+◌, ◌≡◌, ℕ, zero, suc, ◌<◌, ◌≤◌, ◌⊎◌, List, [], ◌∷◌, length, get_or, map, Option, Some, inl, inr, refl, sym, ap, subst, arith, ◌∙◌}
use Rattle.std.specs.Prelude.{IsTrue, slice_get, ◌↔◌}
use Rattle.std.proofs.lemmas.List.{length-map, get_or_past}
use Rattle.std.proofs.lemmas.Bool.{cases_eq, false≢true}
use Rattle.std.proofs.lemmas.Option.{same_Some, slice_get_within, slice_get-get_or}
use Rattle.je_machine.specs.Operation.{Operation}
use Rattle.je_shape.specs.Shape.{Shape, Known, Nothing, Has, Broken}
use Rattle.je_shape.specs.Least.{Method, IsLeast, IsFaultOf, IsFault, IsFirstFault}
use Rattle.je_least.specs.Answer.{known_of, IsShapes, IsBadCode}
use Rattle.je_least.specs.Knowns.{shape_in}
use Rattle.je_least.specs.Searching.{assigned}

at_item : (xs : List Operation) (i : ℕ) (x d : Operation) → i < length xs → x ≡ get_or xs i d → slice_get xs i ≡ Some x
at_item xs i x d inside e = slice_get-get_or xs i d inside ∙ ap (λ (y : Operation). Some y) (sym e)

pub fault_found : (m : Method) (table : List Known) (at : ℕ) (o d : Operation) (k : Known) → at < length m.program.operations → o ≡ get_or m.program.operations at d → k ≡ assigned table at
    → (IsTrue true ↔ IsFaultOf m at o k) → ((before : ℕ) → before < at → IsFault m (assigned table) before → ⊥) → IsFirstFault m (assigned table) at
fault_found m table at o d k inside e f t first =
    record {
      fault =
          record {
            operation = o;
            there = at_item m.program.operations at o d inside e;
            fault = subst (λ (x : Known). IsFaultOf m at o x) f (t.0 refl);
          };
      first = first;
    }

pub no_fault_here : (m : Method) (table : List Known) (at : ℕ) (o d : Operation) (k : Known) → at < length m.program.operations → o ≡ get_or m.program.operations at d → k ≡ assigned table at
    → (IsTrue false ↔ IsFaultOf m at o k) → ((before : ℕ) → before < at → IsFault m (assigned table) before → ⊥)
    → (before : ℕ) → before < at + 1 → IsFault m (assigned table) before → ⊥
no_fault_here m table at o d k inside e f t first before less fault = by_case (cases_eq before at) fault
  where
    by_case : (before ≡ at) ⊎ (before ≡ at → ⊥) → IsFault m (assigned table) before → ⊥
    by_case (inl q) h =
        let there : slice_get m.program.operations at ≡ Some h.operation =
        subst (λ (n : ℕ). slice_get m.program.operations n ≡ Some h.operation) q h.there in
        let same : h.operation ≡ o = same_Some h.operation o (sym there ∙ at_item m.program.operations at o d inside e) in
        let here : IsFaultOf m at h.operation (assigned table at) =
        subst (λ (n : ℕ). IsFaultOf m n h.operation (assigned table n)) q h.fault in
        let on : IsFaultOf m at o (assigned table at) = subst (λ (x : Operation). IsFaultOf m at x (assigned table at)) same here in
        false≢true (t.1 (subst (λ (x : Known). IsFaultOf m at o x) (sym f) on))
    by_case (inr n) h = first before (omega (arith, less, n)) h

pub no_fault : (m : Method) (table : List Known) (i : ℕ) → length m.program.operations ≤ i
    → ((before : ℕ) → before < i → IsFault m (assigned table) before → ⊥) → (at : ℕ) → IsFault m (assigned table) at → ⊥
no_fault m table i past none at h =
    none at (omega (arith, past, slice_get_within m.program.operations at h.operation h.there)) h

-- ---- the shapes

not_broken : (m : Method) (table : List Known) → length table ≡ length m.program.operations → ((at : ℕ) → IsFault m (assigned table) at → ⊥) → (at : ℕ) → assigned table at ≡ Broken → ⊥
not_broken m table n none at e = inside (get m.program.operations at)
  where
    get : (xs : List Operation) (i : ℕ) → (length xs ≤ i) ⊎ ((x : Operation) × (slice_get xs i ≡ Some x))
    get [] i = inl (omega arith)
    get (x ∷ xs) zero = inr (x, refl)
    get (x ∷ xs) (suc i) = more (get xs i)
      where
        more : (length xs ≤ i) ⊎ ((y : Operation) × (slice_get xs i ≡ Some y)) → (length (x ∷ xs) ≤ suc i) ⊎ ((y : Operation) × (slice_get xs i ≡ Some y))
        more (inl h) = inl (omega (arith, h))
        more (inr h) = inr h

    inside : (length m.program.operations ≤ at) ⊎ ((x : Operation) × (slice_get m.program.operations at ≡ Some x)) → ⊥
    inside (inl past) = behind (sym (get_or_past table at Nothing (omega (arith, n, past))) ∙ e)
      where
        behind : Nothing ≡ Broken → ⊥
        behind q = cc
    inside (inr h) =
        none at
        (record {
          operation = h.0;
          there = h.1;
          fault = subst (λ (k : Known). IsFaultOf m at h.0 k) (sym e) tt;
        })

shown_at : (table : List Known) (at : ℕ) → (assigned table at ≡ Broken → ⊥) → assigned table at ≡ known_of (slice_get (map shape_in table) at)
shown_at [] at n = refl
shown_at (Nothing ∷ table) zero n = refl
shown_at (Has s ∷ table) zero n = refl
shown_at (Broken ∷ table) zero n = absurd (n refl)
shown_at (k ∷ table) (suc at) n = shown_at table at n

pub are_shapes : (m : Method) (table : List Known) (list : List (Option Shape)) → length table ≡ length m.program.operations → IsLeast m (assigned table)
    → ((at : ℕ) → IsFault m (assigned table) at → ⊥) → list ≡ map shape_in table → IsShapes m list
are_shapes m table list n least none e =
    subst (λ (l : List (Option Shape)). IsShapes m l) (sym e)
    (record {
      assignment = assigned table;
      least = least;
      whole = none;
      count = length-map table shape_in ∙ n;
      shown = λ at. shown_at table at (not_broken m table n none at);
    })

pub is_bad : (m : Method) (table : List Known) (at : ℕ) → IsLeast m (assigned table) → IsFirstFault m (assigned table) at → IsBadCode m at
is_bad m table at least first = record { assignment = assigned table; least = least; first = first }
