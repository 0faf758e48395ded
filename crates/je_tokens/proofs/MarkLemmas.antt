-- The table of marks.
use Rattle.std.proofs.Common.{◌≡◌, ℕ, zero, suc, ◌+◌, ◌<◌, ◌≤◌, Bool, true, false, cond, List, [], ◌∷◌, map, length, get_or, drop, Option, Some, None, refl, sym, ap, subst, ◌∙◌, arith, rules, Bor}
use Rattle.std.specs.List.{find, AllByRecursion}
use Rattle.std.specs.Option.{option_copied}
use Rattle.std.specs.Prelude.{IfSome}
use Rattle.std.proofs.Math.Seq.{drop-cons}
use Rattle.je_tokens.specs.declared.marks.TheConstants.{MARKS}
use Rattle.je_tokens.specs.Marks.{marks}
use Rattle.je_tokens.specs.Reading.{IsWithin}

pub marks_are : map (λ mark. mark.now) MARKS ≡ marks
unfolding marks
marks_are = refl

-- one that fails is passed over
pub find_on : {X : Type 0} (view : X → List ℕ) (p : List ℕ → Bool) (xs : List X) (k : ℕ) (d : X) → k < length xs
    → p (view (get_or xs k d)) ≡ false → find p (map view (drop k xs)) ≡ find p (map view (drop (k + 1) xs))
find_on view p xs k d within fails =
    ap (λ ys. find p (map view ys)) (drop-cons xs k d within)
    ∙ (rw fails (let e : suc k ≡ k + 1 = omega arith in ap (λ (n : ℕ). find p (map view (drop n xs))) e))

pub find_here : {X : Type 0} (view : X → List ℕ) (p : List ℕ → Bool) (xs : List X) (k : ℕ) (d : X) → k < length xs
    → p (view (get_or xs k d)) ≡ true → find p (map view (drop k xs)) ≡ Some (view (get_or xs k d))
find_here view p xs k d within passes =
    ap (λ ys. find p (map view ys)) (drop-cons xs k d within)
    ∙ (rw passes refl)

pub find_end : {X : Type 0} (view : X → List ℕ) (p : List ℕ → Bool) (xs : List X) (k : ℕ) → length xs ≤ k → find p (map view (drop k xs)) ≡ None
find_end view p [] zero h = refl
find_end view p [] (suc k) h = refl
find_end view p (x ∷ xs) zero h = absurd (omega arith)
find_end view p (x ∷ xs) (suc k) h = find_end view p xs k (omega arith)

-- no mark is empty

abbrev Each : List (List ℕ) → Type 0
Each words = AllByRecursion (λ word. 0 < length word) words

each_mark : Each marks
unfolding marks
each_mark = search rules

some_found : (b : Bool) (word : List ℕ) (rest : Option (List ℕ)) → 0 < length word → IfSome rest (λ w. 0 < length w) → IfSome (cond b (Some word) rest) (λ w. 0 < length w)
some_found true word rest here later = here
some_found false word rest here later = later

found_some : (p : List ℕ → Bool) (words : List (List ℕ)) → Each words → IfSome (find p words) (λ word. 0 < length word)
found_some p [] each = tt
found_some p (word ∷ words) each = some_found (p word) word (find p words) each.0 (found_some p words each.1)

in_text : (text : List ℕ) (found : Option (Bor (List ℕ))) → IfSome (option_copied found) (λ word. 0 < length word) → IfSome found (λ word. length word.now ≤ length text)
    → IfSome found (λ word. IsWithin (length word.now) text)
in_text text None some within = tt
in_text text (Some word) some within = (some, within)

pub mark_within : (text : List ℕ) (p : List ℕ → Bool) (found : Option (Bor (List ℕ))) → option_copied found ≡ find p marks → IfSome found (λ word. length word.now ≤ length text)
    → IfSome found (λ word. IsWithin (length word.now) text)
mark_within text p found is within =
    in_text text found (subst (λ (o : Option (List ℕ)). IfSome o (λ word. 0 < length word)) (sym is) (found_some p marks each_mark)) within
