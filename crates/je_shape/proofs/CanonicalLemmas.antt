-- Shapes in canonical form that are below each other are equal.
use Rattle.std.proofs.Common.{◌≡◌, ℕ, zero, suc, List, [], ◌∷◌, ◌⊎◌, inl, inr, refl, sym, ap, ◌∙◌, subst}
use Rattle.std.specs.List.{AllByRecursion}
use Rattle.std.specs.List.Sorted.{IsStrictlySortedBy}
use Rattle.std.specs.Cmp.Lexicographic.{slice_cmp}
use Rattle.std.specs.Ordering.{nat_cmp}
use Rattle.std.specs.declared.cmp.Ordering.TheVariants.{Less}
use Rattle.std.proofs.lemmas.Cmp.{nat_list_cmp_total}
use Rattle.je_shape.specs.Slot.{Slot, Top, Is, Reference, HasName, HasNames, IsBelow, IsItemBelow}
use Rattle.je_shape.specs.Shape.{Shape, StackBelow, LocalsBelow, ShapeBelow, Known, Nothing, Has, Broken, KnownBelow}
use Rattle.je_shape.specs.Canonical.{IsCanonicalNames, IsCanonicalSlot, EndsInSlot, IsCanonicalShape, IsCanonical}
use Rattle.je_shape.specs.Flow.{shape_of}

-- ---- names

Before : List ℕ → List ℕ → Type 0
Before x y = slice_cmp nat_cmp x y ≡ Less

not_both : (x y : List ℕ) → Before x y → Before y x → ⊥
unfolding Before
not_both x y a b =
    let order = nat_list_cmp_total.antisymm x y in
    cc

later : (x : List ℕ) (ys : List (List ℕ)) (n : List ℕ) → AllByRecursion (λ y. slice_cmp nat_cmp x y ≡ Less) ys → HasName ys n → Before x n
unfolding Before
later x [] n h i = absurd i
later x (y ∷ ys) n h (inl e) =
    let P : List ℕ → Type 0 = λ z. slice_cmp nat_cmp x z ≡ Less in
    subst P e h.0
later x (y ∷ ys) n h (inr i) = later x ys n h.1 i

heads : (x y : List ℕ) → (y ≡ x) ⊎ Before y x → (x ≡ y) ⊎ Before x y → x ≡ y
heads x y (inl e) k = sym e
heads x y (inr b) (inl e) = e
heads x y (inr b) (inr c) = absurd (not_both x y c b)

told : (y : List ℕ) (b : List (List ℕ)) (n : List ℕ) → IsCanonicalNames (y ∷ b) → HasName (y ∷ b) n → (y ≡ n) ⊎ Before y n
unfolding IsStrictlySortedBy
told y b n s (inl e) = inl e
told y b n s (inr i) = inr (later y b n s.0 i)

-- what stands behind the first is not the first
behind : (x : List ℕ) (a b : List (List ℕ)) (n : List ℕ) → IsCanonicalNames (x ∷ a) → HasName a n → HasName (x ∷ b) n → HasName b n
unfolding IsStrictlySortedBy
behind x a b n s i (inl e) =
    let P : List ℕ → Type 0 = λ z. Before x z in
    absurd (not_both x x (subst P (sym e) (later x a n s.0 i)) (subst P (sym e) (later x a n s.0 i)))
behind x a b n s i (inr j) = j

pub one_names : (a b : List (List ℕ)) → IsCanonicalNames a → IsCanonicalNames b → HasNames a b → HasNames b a → a ≡ b
unfolding IsStrictlySortedBy
one_names [] [] s t h k = refl
one_names [] (y ∷ b) s t h k = absurd (k y (inl refl))
one_names (x ∷ a) [] s t h k = absurd (h x (inl refl))
one_names (x ∷ a) (y ∷ b) s t h k =
    let e = heads x y (told y b x t (h x (inl refl))) (told x a y s (k y (inl refl))) in
    let P : List ℕ → Type 0 = λ z. IsCanonicalNames (z ∷ b) → HasNames (x ∷ a) (z ∷ b) → HasNames (z ∷ b) (x ∷ a) → x ∷ a ≡ z ∷ b in
    subst P e
    (λ t h k. ap (λ (l : List (List ℕ)). x ∷ l)
    (one_names a b s.1 t.1
    (λ n i. behind x a b n s i (h n (inr i)))
    (λ n i. behind x b a n t i (k n (inr i))))) t h k

-- ---- slots

pub one_slot : (s t : Slot) → IsCanonicalSlot s → IsCanonicalSlot t → IsBelow s t → IsBelow t s → s ≡ t
one_slot Top Top s t h k = refl
one_slot Top (Is b) s t h k = absurd h
one_slot Top (Reference b) s t h k = absurd h
one_slot (Is a) Top s t h k = absurd k
one_slot (Is a) (Is b) s t h k = ap (λ w. Is w) h
one_slot (Is a) (Reference b) s t h k = absurd h
one_slot (Reference a) Top s t h k = absurd k
one_slot (Reference a) (Is b) s t h k = absurd h
one_slot (Reference a) (Reference b) s t h k = ap (λ n. Reference n) (one_names a b s t h k)

one_item : (s t : Slot) → IsCanonicalSlot s → IsCanonicalSlot t → IsItemBelow s t → IsItemBelow t s → s ≡ t
one_item Top Top s t h k = refl
one_item Top (Is b) s t h k = absurd h
one_item Top (Reference b) s t h k = absurd h
one_item (Is a) Top s t h k = absurd k
one_item (Is a) (Is b) s t h k = ap (λ w. Is w) h
one_item (Is a) (Reference b) s t h k = absurd h
one_item (Reference a) Top s t h k = absurd k
one_item (Reference a) (Is b) s t h k = absurd h
one_item (Reference a) (Reference b) s t h k = ap (λ n. Reference n) (one_names a b s t h k)

conses : (x y : Slot) (a b : List Slot) → x ≡ y → a ≡ b → x ∷ a ≡ y ∷ b
conses x y a b e f = ap (λ z. z ∷ a) e ∙ ap (λ (l : List Slot). y ∷ l) f

one_stack : (s t : List Slot) → AllByRecursion IsCanonicalSlot s → AllByRecursion IsCanonicalSlot t → StackBelow s t → StackBelow t s → s ≡ t
one_stack [] [] c d h k = refl
one_stack [] (y ∷ t) c d h k = absurd h
one_stack (x ∷ s) [] c d h k = absurd h
one_stack (x ∷ s) (y ∷ t) c d h k = conses x y s t (one_item x y c.0 d.0 h.0 k.0) (one_stack s t c.1 d.1 h.1 k.1)

-- ---- local variables

no_locals : (y : Slot) (m : List Slot) → EndsInSlot (y ∷ m) → LocalsBelow [] (y ∷ m) → ⊥
no_locals Top [] e h = e
no_locals (Is b) [] e h = h zero
no_locals (Reference b) [] e h = h zero
no_locals y (z ∷ m) e h = no_locals z m e (λ i. h (suc i))

ends_tail : (x : Slot) (l : List Slot) → EndsInSlot (x ∷ l) → EndsInSlot l
ends_tail x [] e = tt
ends_tail x (y ∷ l) e = e

one_locals : (s t : List Slot) → AllByRecursion IsCanonicalSlot s → AllByRecursion IsCanonicalSlot t → EndsInSlot s → EndsInSlot t → LocalsBelow s t → LocalsBelow t s → s ≡ t
one_locals [] [] c d e f h k = refl
one_locals [] (y ∷ t) c d e f h k = absurd (no_locals y t f h)
one_locals (x ∷ s) [] c d e f h k = absurd (no_locals x s e k)
one_locals (x ∷ s) (y ∷ t) c d e f h k =
    conses x y s t (one_slot x y c.0 d.0 (h zero) (k zero))
    (one_locals s t c.1 d.1 (ends_tail x s e) (ends_tail y t f) (λ i. h (suc i)) (λ i. k (suc i)))

shapes : (a b c d : List Slot) → a ≡ b → c ≡ d → shape_of a c ≡ shape_of b d
shapes a b c d e f = ap (λ x. shape_of x c) e ∙ ap (λ y. shape_of b y) f

pub one_shape : (s t : Shape) → IsCanonicalShape s → IsCanonicalShape t → ShapeBelow s t → ShapeBelow t s → s ≡ t
one_shape s t c d h k =
    shapes s.stack t.stack s.locals t.locals
    (one_stack s.stack t.stack c.stack d.stack h.stack k.stack)
    (one_locals s.locals t.locals c.locals d.locals c.last d.last h.locals k.locals)

pub one_known : (s t : Known) → IsCanonical s → IsCanonical t → KnownBelow s t → KnownBelow t s → s ≡ t
one_known Nothing Nothing c d h k = refl
one_known Nothing (Has t) c d h k = absurd k
one_known Nothing Broken c d h k = absurd k
one_known (Has s) Nothing c d h k = absurd h
one_known (Has s) (Has t) c d h k = ap (λ x. Has x) (one_shape s t c d h k)
one_known (Has s) Broken c d h k = absurd k
one_known Broken Nothing c d h k = absurd h
one_known Broken (Has t) c d h k = absurd h
one_known Broken Broken c d h k = refl
