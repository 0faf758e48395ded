-- Sets of names.
use Rattle.std.proofs.Math.Seq.{take-suc}
use Rattle.std.proofs.Common.{◌≡◌, ℕ, ◌+◌, ◌<◌, length, take, get_or, add-one, List, [], ◌∷◌, ◌++◌, ◌⊎◌, inl, inr, refl, sym, ap, ◌∙◌, subst}
use Rattle.std.specs.List.{AllByRecursion}
use Rattle.std.specs.List.Sorted.{IsStrictlySortedBy}
use Rattle.std.specs.Cmp.Lexicographic.{slice_cmp}
use Rattle.std.specs.Ordering.{nat_cmp, ordering_reverse}
use Rattle.std.specs.declared.cmp.Ordering.{Ordering}
use Rattle.std.specs.declared.cmp.Ordering.TheVariants.{Less, Equal, Greater}
use Rattle.std.proofs.lemmas.Cmp.{nat_list_cmp_total}
use Rattle.std.proofs.lemmas.Map.Lookups.{exact_bytes}
use Rattle.je_shape.specs.Slot.{HasName}
use Rattle.je_shape.specs.Joined.{IsUnion}
use Rattle.je_shape.specs.Inserted.{placed, inserted}
use Rattle.je_shape.specs.Canonical.{IsCanonicalNames}

pub one_name : (name : List ℕ) (names : List (List ℕ)) → names ≡ name ∷ [] → IsCanonicalNames names
unfolding IsStrictlySortedBy
one_name name names e = subst IsCanonicalNames (sym e) (tt, tt)

-- ---- names put where they belong

cases : (name x : List ℕ) (P : Ordering → Type 0) → ((slice_cmp nat_cmp name x ≡ Less) → P Less) → ((slice_cmp nat_cmp name x ≡ Equal) → P Equal) → ((slice_cmp nat_cmp name x ≡ Greater) → P Greater)
    → P (slice_cmp nat_cmp name x)
cases name x P a b c =
    elim (slice_cmp nat_cmp name x) as (λ o. slice_cmp nat_cmp name x ≡ o → P o) [ Less ↦ a | Equal ↦ b | Greater ↦ c ] refl

all_placed : (P : List ℕ → Type 0) (o : Ordering) (name x : List ℕ) (xs more : List (List ℕ)) → P name → P x → AllByRecursion P xs → AllByRecursion P more → AllByRecursion P (placed o name x xs more)
all_placed P Less name x xs more n h k m = (n, (h, k))
all_placed P Equal name x xs more n h k m = (h, k)
all_placed P Greater name x xs more n h k m = (h, m)

all_inserted : (P : List ℕ → Type 0) (name : List ℕ) (xs : List (List ℕ)) → P name → AllByRecursion P xs → AllByRecursion P (inserted name xs)
all_inserted P name [] n h = (n, tt)
all_inserted P name (x ∷ xs) n h = all_placed P (slice_cmp nat_cmp name x) name x xs (inserted name xs) n h.0 h.1 (all_inserted P name xs n h.1)

all_later : (name x : List ℕ) (xs : List (List ℕ)) → slice_cmp nat_cmp name x ≡ Less → AllByRecursion (λ y. slice_cmp nat_cmp x y ≡ Less) xs → AllByRecursion (λ y. slice_cmp nat_cmp name y ≡ Less) xs
all_later name x [] e h = tt
all_later name x (y ∷ ys) e h = (nat_list_cmp_total.trans name x y e h.0, all_later name x ys e h.1)

pub inserted_sorted : (name : List ℕ) (xs : List (List ℕ)) → IsCanonicalNames xs → IsCanonicalNames (inserted name xs)
unfolding IsStrictlySortedBy
inserted_sorted name [] h = (tt, tt)
inserted_sorted name (x ∷ xs) h =
    let P : Ordering → Type 0 = λ o. IsCanonicalNames (placed o name x xs (inserted name xs)) in
    cases name x P
    (λ e. ((e, all_later name x xs e h.0), h))
    (λ e. h)
    (λ e. let order = nat_list_cmp_total.antisymm x name in
    let less : slice_cmp nat_cmp x name ≡ Less = order ∙ ap ordering_reverse e in
    (all_inserted (λ y. slice_cmp nat_cmp x y ≡ Less) name xs less h.0, inserted_sorted name xs h.1))

past : (name x : List ℕ) (xs : List (List ℕ)) (n : List ℕ) → (name ≡ n) ⊎ HasName xs n → (name ≡ n) ⊎ HasName (x ∷ xs) n
past name x xs n (inl e) = inl e
past name x xs n (inr h) = inr (inr h)

has_forth : (name x : List ℕ) (xs more : List (List ℕ)) (n : List ℕ) (o : Ordering) → (HasName more n → (name ≡ n) ⊎ HasName xs n) → HasName (placed o name x xs more) n → (name ≡ n) ⊎ HasName (x ∷ xs) n
has_forth name x xs more n Less f (inl e) = inl e
has_forth name x xs more n Less f (inr h) = inr h
has_forth name x xs more n Equal f h = inr h
has_forth name x xs more n Greater f (inl e) = inr (inl e)
has_forth name x xs more n Greater f (inr h) = past name x xs n (f h)

pub inserted_forth : (name : List ℕ) (xs : List (List ℕ)) (n : List ℕ) → HasName (inserted name xs) n → (name ≡ n) ⊎ HasName xs n
inserted_forth name [] n (inl e) = inl e
inserted_forth name [] n (inr h) = absurd h
inserted_forth name (x ∷ xs) n h = has_forth name x xs (inserted name xs) n (slice_cmp nat_cmp name x) (inserted_forth name xs n) h

pub inserted_name : (name : List ℕ) (xs : List (List ℕ)) → HasName (inserted name xs) name
inserted_name name [] = inl refl
inserted_name name (x ∷ xs) =
    let P : Ordering → Type 0 = λ o. HasName (placed o name x xs (inserted name xs)) name in
    cases name x P (λ e. inl refl) (λ e. inl (sym (exact_bytes name x e))) (λ e. inr (inserted_name name xs))

kept : (x : List ℕ) (xs more : List (List ℕ)) (n : List ℕ) → (HasName xs n → HasName more n) → HasName (x ∷ xs) n → HasName (x ∷ more) n
kept x xs more n f (inl e) = inl e
kept x xs more n f (inr i) = inr (f i)

pub inserted_old : (name : List ℕ) (xs : List (List ℕ)) (n : List ℕ) → HasName xs n → HasName (inserted name xs) n
inserted_old name [] n h = absurd h
inserted_old name (x ∷ xs) n h =
    let P : Ordering → Type 0 = λ o. HasName (placed o name x xs (inserted name xs)) n in
    cases name x P (λ e. inr h) (λ e. h) (λ e. kept x xs (inserted name xs) n (inserted_old name xs n) h)

-- ---- sets joined

has_joined : (a b : List (List ℕ)) (n : List ℕ) → HasName (a ++ b) n → HasName a n ⊎ HasName b n
has_joined [] b n h = inr h
has_joined (x ∷ a) b n (inl e) = inl (inl e)
has_joined (x ∷ a) b n (inr h) = on (has_joined a b n h)
  where
    on : HasName a n ⊎ HasName b n → HasName (x ∷ a) n ⊎ HasName b n
    on (inl h) = inl (inr h)
    on (inr h) = inr h

has_left : (a b : List (List ℕ)) (n : List ℕ) → HasName a n → HasName (a ++ b) n
has_left [] b n h = absurd h
has_left (x ∷ a) b n (inl e) = inl e
has_left (x ∷ a) b n (inr h) = inr (has_left a b n h)

has_right : (a b : List (List ℕ)) (n : List ℕ) → HasName b n → HasName (a ++ b) n
has_right [] b n h = h
has_right (x ∷ a) b n h = inr (has_right a b n h)

pub union_none : (a : List (List ℕ)) → IsUnion a [] a
union_none a n = (inl, back)
  where
    back : HasName a n ⊎ HasName [] n → HasName a n
    back (inl h) = h
    back (inr h) = absurd h

pub union_more : (a taken all : List (List ℕ)) (name : List ℕ) → IsUnion a taken all → IsUnion a (taken ++ name ∷ []) (inserted name all)
union_more a taken all name u n = (λ h. forth (inserted_forth name all n h), back)
  where
    told : HasName a n ⊎ HasName taken n → HasName a n ⊎ HasName (taken ++ name ∷ []) n
    told (inl h) = inl h
    told (inr h) = inr (has_left taken (name ∷ []) n h)

    forth : (name ≡ n) ⊎ HasName all n → HasName a n ⊎ HasName (taken ++ name ∷ []) n
    forth (inl e) = inr (has_right taken (name ∷ []) n (inl e))
    forth (inr h) = told ((u n).0 h)

    last : HasName taken n ⊎ HasName (name ∷ []) n → HasName (inserted name all) n
    last (inl h) = inserted_old name all n ((u n).1 (inr h))
    last (inr (inl e)) = subst (λ (m : List ℕ). HasName (inserted name all) m) e (inserted_name name all)
    last (inr (inr h)) = absurd h

    back : HasName a n ⊎ HasName (taken ++ name ∷ []) n → HasName (inserted name all) n
    back (inl h) = inserted_old name all n ((u n).1 (inl h))
    back (inr h) = last (has_joined taken (name ∷ []) n h)

pub none_sorted : IsCanonicalNames []
unfolding IsStrictlySortedBy
none_sorted = tt

pub union_step : (a b all more : List (List ℕ)) (i : ℕ) (name d : List ℕ) → i < length b → name ≡ get_or b i d → more ≡ inserted name all
    → IsUnion a (take i b) all × IsCanonicalNames all → IsUnion a (take (i + 1) b) more × IsCanonicalNames more
union_step a b all more i name d lt e f h =
    let taken : take (i + 1) b ≡ take i b ++ name ∷ [] = rw (add-one i, take-suc b i d lt) (ap (λ (n : List ℕ). take i b ++ n ∷ []) (sym e)) in
    let P : List (List ℕ) → Type 0 = λ l. IsUnion a l more × IsCanonicalNames more in
    let Q : List (List ℕ) → Type 0 = λ l. IsUnion a (take i b ++ name ∷ []) l × IsCanonicalNames l in
    subst P (sym taken) (subst Q (sym f) (union_more a (take i b) all name h.0, inserted_sorted name all h.1))
