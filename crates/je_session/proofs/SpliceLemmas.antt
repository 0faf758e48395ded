-- Lists of instructions, spliced.
use Rattle.std.proofs.Common.{◌≡◌, ℕ, zero, suc, ◌+◌, ◌≤◌, ◌<◌, get_or, List, [], ◌∷◌, ◌++◌, length, Option, Some, None, refl, sym, ap, ◌∙◌, arith, append_assoc, length-append}
use Rattle.std.specs.Prelude.{Bool, ◌⊎◌, count_by, is_some, if◌then◌else◌}
use Rattle.std.specs.List.{AllByRecursion, AllZip}
use Rattle.std.proofs.lemmas.List.{append-nil}
use Rattle.std.proofs.lemmas.List.Sums.{sum_by-cons}
use Rattle.je_code.specs.Moved.{IsNewOf}
use Rattle.je_session.specs.declared.plan.Fragment.{Fragment}
use Rattle.je_session.specs.declared.plan.Fragment.TheVariants.{Empty, Proceed}
use Rattle.je_session.specs.Splice.{new_instrs, new_places}

-- one instruction, and then the rest
pub new_instrs-first : {A : Type 0} (choice : Option Fragment) (chosen : List (Option Fragment)) (x : A) (xs : List A)
    → new_instrs (choice ∷ chosen) (x ∷ xs) ≡ new_instrs (choice ∷ []) (x ∷ []) ++ new_instrs chosen xs
new_instrs-first None chosen x xs = refl
new_instrs-first (Some Empty) chosen x xs = refl
new_instrs-first (Some Proceed) chosen x xs = refl

-- one more instruction is out
pub splice_more : {A : Type 0} (out out' : List A) (choice : Option Fragment) (chosen chosen' : List (Option Fragment)) (x : A) (xs xs' whole : List A)
    → xs ≡ x ∷ xs' → chosen ≡ choice ∷ chosen' → out' ≡ out ++ new_instrs (choice ∷ []) (x ∷ [])
    → out ++ new_instrs chosen xs ≡ whole → out' ++ new_instrs chosen' xs' ≡ whole
splice_more out out' choice chosen chosen' x xs xs' whole first_is chosen_is out_is before =
    ap (λ l. l ++ new_instrs chosen' xs') out_is
    ∙ append_assoc out (new_instrs (choice ∷ []) (x ∷ [])) (new_instrs chosen' xs')
    ∙ ap (λ l. out ++ l) (sym (new_instrs-first choice chosen' x xs'))
    ∙ (rw (first_is, chosen_is) at before)

-- all are out
pub splice_end : {A : Type 0} (out whole : List A) (chosen : List (Option Fragment)) (xs : List A)
    → length chosen ≡ length xs → (length xs ≡ 0) ⊎ (length chosen ≡ 0) → out ++ new_instrs chosen xs ≡ whole → out ≡ whole
splice_end out whole [] [] same none before = sym (append-nil out) ∙ before
splice_end out whole [] (x ∷ xs) same none before = absurd (omega arith)
splice_end out whole (choice ∷ chosen) [] same none before = absurd (omega arith)
splice_end out whole (choice ∷ chosen) (x ∷ xs) same none before = absurd (omega arith)

pub count_by-cons : {A : Type 0} (p : A → Bool) (x : A) (xs : List A) → count_by p (x ∷ xs) ≡ (if p x then 1 else 0) + count_by p xs
count_by-cons p x xs = sum_by-cons (λ y. if p y then 1 else 0) x xs

-- where nothing is chosen all stay
pub new_instrs-unchosen : {A : Type 0} (chosen : List (Option Fragment)) (xs : List A) → count_by is_some chosen ≡ 0 → new_instrs chosen xs ≡ xs
new_instrs-unchosen [] xs none = refl
new_instrs-unchosen (choice ∷ chosen) [] none = refl
new_instrs-unchosen (None ∷ chosen) (x ∷ xs) none = ap (λ l. x ∷ l) (new_instrs-unchosen chosen xs (omega (arith, none, count_by-cons {A = Option Fragment} is_some None chosen)))
new_instrs-unchosen (Some fragment ∷ chosen) (x ∷ xs) none = absurd (omega (arith, none, count_by-cons {A = Option Fragment} is_some (Some fragment) chosen))

-- what holds of each pair holds of each that is left
pub AllZip-new_instrs : {A B : Type 0} (R : A → B → Type 0) (chosen : List (Option Fragment)) (xs : List A) (ys : List B)
    → AllZip R xs ys → AllZip R (new_instrs chosen xs) (new_instrs chosen ys)
AllZip-new_instrs R [] xs ys all = all
AllZip-new_instrs R (choice ∷ chosen) [] [] all = tt
AllZip-new_instrs R (choice ∷ chosen) [] (y ∷ ys) all = absurd all
AllZip-new_instrs R (choice ∷ chosen) (x ∷ xs) [] all = absurd all
AllZip-new_instrs R (None ∷ chosen) (x ∷ xs) (y ∷ ys) all = (all.0, AllZip-new_instrs R chosen xs ys all.1)
AllZip-new_instrs R (Some Empty ∷ chosen) (x ∷ xs) (y ∷ ys) all = AllZip-new_instrs R chosen xs ys all.1
AllZip-new_instrs R (Some Proceed ∷ chosen) (x ∷ xs) (y ∷ ys) all = (all.0, AllZip-new_instrs R chosen xs ys all.1)

pub AllByRecursion-new_instrs : {A : Type 0} (P : A → Type 0) (chosen : List (Option Fragment)) (xs : List A)
    → AllByRecursion P xs → AllByRecursion P (new_instrs chosen xs)
AllByRecursion-new_instrs P [] xs all = all
AllByRecursion-new_instrs P (choice ∷ chosen) [] all = tt
AllByRecursion-new_instrs P (None ∷ chosen) (x ∷ xs) all = (all.0, AllByRecursion-new_instrs P chosen xs all.1)
AllByRecursion-new_instrs P (Some Empty ∷ chosen) (x ∷ xs) all = AllByRecursion-new_instrs P chosen xs all.1
AllByRecursion-new_instrs P (Some Proceed ∷ chosen) (x ∷ xs) all = (all.0, AllByRecursion-new_instrs P chosen xs all.1)

-- what stands for one instruction is no more than one
pub new_instrs-one : {A : Type 0} (choice : Option Fragment) (x : A) → length (new_instrs (choice ∷ []) (x ∷ [])) ≤ 1
new_instrs-one None x = omega arith
new_instrs-one (Some Empty) x = omega arith
new_instrs-one (Some Proceed) x = omega arith

-- ---- where instructions go

-- one more index is out
pub places_more : {A : Type 0} (out out' : List A) (new_of new_of' : List ℕ) (n : ℕ) (choice : Option Fragment) (chosen chosen' : List (Option Fragment)) (x : A) (xs xs' : List A) (whole : List ℕ)
    → xs ≡ x ∷ xs' → chosen ≡ choice ∷ chosen' → out' ≡ out ++ new_instrs (choice ∷ []) (x ∷ []) → n ≡ length out → new_of' ≡ new_of ++ n ∷ []
    → new_of ++ new_places (length out) chosen xs ≡ whole → new_of' ++ new_places (length out') chosen' xs' ≡ whole
places_more {A = A} out out' new_of new_of' n choice chosen chosen' x xs xs' whole first_is chosen_is out_is n_is new_of_is before =
    let at : ℕ → List ℕ = λ m. new_places {A = A} m chosen' xs' in
    ap (λ l. l ++ at (length out')) (new_of_is ∙ ap (λ m. new_of ++ m ∷ []) n_is)
    ∙ append_assoc new_of (length out ∷ []) (at (length out'))
    ∙ ap (λ m. new_of ++ length out ∷ at m) (ap length out_is ∙ length-append out (new_instrs (choice ∷ []) (x ∷ [])))
    ∙ (rw (first_is, chosen_is) at before)

-- that of the end is out
pub places_end : {A : Type 0} (out : List A) (new_of new_of' whole : List ℕ) (n : ℕ) (chosen : List (Option Fragment)) (xs : List A)
    → length chosen ≡ length xs → (length xs ≡ 0) ⊎ (length chosen ≡ 0) → n ≡ length out → new_of' ≡ new_of ++ n ∷ []
    → new_of ++ new_places (length out) chosen xs ≡ whole → new_of' ≡ whole
places_end out new_of new_of' whole n chosen [] same none n_is new_of_is before = new_of_is ∙ ap (λ m. new_of ++ m ∷ []) n_is ∙ before
places_end out new_of new_of' whole n [] (x ∷ xs) same none n_is new_of_is before = absurd (omega arith)
places_end out new_of new_of' whole n (choice ∷ chosen) (x ∷ xs) same none n_is new_of_is before = absurd (omega arith)

length-new_places : {A : Type 0} (at : ℕ) (chosen : List (Option Fragment)) (xs : List A) → length (new_places at chosen xs) ≡ length xs + 1
length-new_places at chosen [] = refl
length-new_places at [] (x ∷ xs) = omega (arith, length-new_places (at + 1) [] xs)
length-new_places at (choice ∷ chosen) (x ∷ xs) = omega (arith, length-new_places (at + length (new_instrs (choice ∷ []) (x ∷ []))) chosen xs)

-- none is less than the first
least_place : {A : Type 0} (least at : ℕ) (chosen : List (Option Fragment)) (xs : List A) → least ≤ at → (i : ℕ) → i < length (new_places at chosen xs)
    → least ≤ get_or (new_places at chosen xs) i 0
least_place least at chosen [] first zero within = first
least_place least at chosen [] first (suc i) within = absurd (omega arith)
least_place least at [] (x ∷ xs) first zero within = first
least_place least at [] (x ∷ xs) first (suc i) within = least_place least (at + 1) [] xs (omega arith) i (omega arith)
least_place least at (choice ∷ chosen) (x ∷ xs) first zero within = first
least_place least at (choice ∷ chosen) (x ∷ xs) first (suc i) within =
    least_place least (at + length (new_instrs (choice ∷ []) (x ∷ []))) chosen xs (omega arith) i (omega arith)

first_least : {A : Type 0} (at : ℕ) (chosen : List (Option Fragment)) (xs : List A) (j : ℕ) → j < length (new_places at chosen xs)
    → get_or (new_places at chosen xs) 0 0 ≤ get_or (new_places at chosen xs) j 0
first_least {A = A} at chosen [] j within = least_place {A = A} at at chosen [] (omega arith) j within
first_least at [] (x ∷ xs) j within = least_place at at [] (x ∷ xs) (omega arith) j within
first_least at (choice ∷ chosen) (x ∷ xs) j within = least_place at at (choice ∷ chosen) (x ∷ xs) (omega arith) j within

rising_places : {A : Type 0} (at : ℕ) (chosen : List (Option Fragment)) (xs : List A) (i j : ℕ) → i ≤ j → j < length (new_places at chosen xs)
    → get_or (new_places at chosen xs) i 0 ≤ get_or (new_places at chosen xs) j 0
rising_places at chosen xs zero j h within = first_least at chosen xs j within
rising_places at chosen xs (suc i) zero h within = absurd (omega arith)
rising_places at chosen [] (suc i) (suc j) h within = absurd (omega arith)
rising_places at [] (x ∷ xs) (suc i) (suc j) h within = rising_places (at + 1) [] xs i j (omega arith) (omega arith)
rising_places at (choice ∷ chosen) (x ∷ xs) (suc i) (suc j) h within = rising_places (at + length (new_instrs (choice ∷ []) (x ∷ []))) chosen xs i j (omega arith) (omega arith)

most_place : {A : Type 0} (most at : ℕ) (chosen : List (Option Fragment)) (xs : List A) → at + length (new_instrs chosen xs) ≤ most
    → AllByRecursion (λ index. index ≤ most) (new_places at chosen xs)
most_place most at chosen [] h = (omega (arith, h), tt)
most_place most at [] (x ∷ xs) h = (omega (arith, h), most_place most (at + 1) [] xs (omega (arith, h)))
most_place most at (choice ∷ chosen) (x ∷ xs) h =
    let size = ap length (new_instrs-first choice chosen x xs) ∙ length-append (new_instrs (choice ∷ []) (x ∷ [])) (new_instrs chosen xs) in
    (omega (arith, h), most_place most (at + length (new_instrs (choice ∷ []) (x ∷ []))) chosen xs (omega (arith, h, size)))

-- tables can be mapped by them
pub are_new_of : {A : Type 0} (chosen : List (Option Fragment)) (xs : List A) → IsNewOf (length xs) (length (new_instrs chosen xs)) (new_places 0 chosen xs)
are_new_of chosen xs = record {
  all = length-new_places 0 chosen xs;
  rises = rising_places 0 chosen xs;
  within = most_place (length (new_instrs chosen xs)) 0 chosen xs (omega arith);
}
