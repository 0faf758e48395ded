-- Instructions of two types that are alike, one by one, are laid out alike.
use Rattle.std.proofs.Common.{◌≡◌, ℕ, zero, suc, ◌+◌, List, [], ◌∷◌, ◌++◌, length, Option, Some, None, Bool, true, false, cond, refl, ap, subst, ◌∙◌}
use Rattle.std.specs.Prelude.{map, filter, slice_get}
use Rattle.std.specs.List.{AllZip}
use Rattle.je_splice.specs.Block.{Piece}
use Rattle.je_splice.specs.Layout.{Codes, Item, Keeps, Puts, over_of, body_width, jump_width, width, moved_to, width_there, shut, body_code, jump_code, item_code, code_from, laid_code, own_handlers, own_from, laid_handlers}
use Rattle.je_splice.specs.Marks.{Marks, lead_width, places_of, first_of, arrive, over_if, entry_items, last_item, index_items, items_from, lead_items, marked_items, entry_target, marked_handlers}

-- ---- lists

zip_append : {A B : Type 0} (R : A → B → Type 0) (xs : List A) (ys : List B) (us : List A) (vs : List B) → AllZip R xs ys → AllZip R us vs → AllZip R (xs ++ us) (ys ++ vs)
zip_append R [] [] us vs h k = k
zip_append R [] (y ∷ ys) us vs h k = absurd h
zip_append R (x ∷ xs) [] us vs h k = absurd h
zip_append R (x ∷ xs) (y ∷ ys) us vs h k = (h.0, zip_append R xs ys us vs h.1 k)

pub zip_map : {A B C D : Type 0} (R : A → B → Type 0) (T : C → D → Type 0) (f : A → C) (g : B → D) → ((x : A) (y : B) → R x y → T (f x) (g y)) → (xs : List A) (ys : List B) → AllZip R xs ys
    → AllZip T (map f xs) (map g ys)
zip_map R T f g each [] [] h = tt
zip_map R T f g each [] (y ∷ ys) h = absurd h
zip_map R T f g each (x ∷ xs) [] h = absurd h
zip_map R T f g each (x ∷ xs) (y ∷ ys) h = (each x y h.0, zip_map R T f g each xs ys h.1)

pub zip_length : {A B : Type 0} (R : A → B → Type 0) (xs : List A) (ys : List B) → AllZip R xs ys → length xs ≡ length ys
zip_length R [] [] h = refl
zip_length R [] (y ∷ ys) h = absurd h
zip_length R (x ∷ xs) [] h = absurd h
zip_length R (x ∷ xs) (y ∷ ys) h = ap suc (zip_length R xs ys h.1)

zip_both : {A B : Type 0} (R S : A → B → Type 0) (xs : List A) (ys : List B) → AllZip R xs ys → AllZip S xs ys → AllZip (λ x y. R x y × S x y) xs ys
zip_both R S [] [] h k = tt
zip_both R S [] (y ∷ ys) h k = absurd h
zip_both R S (x ∷ xs) [] h k = absurd h
zip_both R S (x ∷ xs) (y ∷ ys) h k = ((h.0, k.0), zip_both R S xs ys h.1 k.1)

zip_cond : {A B : Type 0} (R : A → B → Type 0) (b c : Bool) (x : A) (y : B) (xs : List A) (ys : List B) → b ≡ c → R x y → AllZip R xs ys
    → AllZip R (cond b (x ∷ xs) xs) (cond c (y ∷ ys) ys)
zip_cond R true true x y xs ys e h k = (h, k)
zip_cond R true false x y xs ys e h k = absurd cc
zip_cond R false true x y xs ys e h k = absurd cc
zip_cond R false false x y xs ys e h k = k

pub zip_filter : {A B : Type 0} (R : A → B → Type 0) (p : A → Bool) (q : B → Bool) → ((x : A) (y : B) → R x y → p x ≡ q y) → (xs : List A) (ys : List B) → AllZip R xs ys
    → AllZip R (filter p xs) (filter q ys)
zip_filter R p q each [] [] h = tt
zip_filter R p q each [] (y ∷ ys) h = absurd h
zip_filter R p q each (x ∷ xs) [] h = absurd h
zip_filter R p q each (x ∷ xs) (y ∷ ys) h = zip_cond R (p x) (q y) x y (filter p xs) (filter q ys) (each x y h.0) h.0 (zip_filter R p q each xs ys h.1)

same_maps : (f g : ℕ → ℕ) → ((n : ℕ) → f n ≡ g n) → f ≡ g
same_maps f g e = λ i. λ n. e n i

-- ---- what is alike

-- alike instructions stay alike, and so do alike entries
pub record AlikeCodes {A B H G : Type 0} (R : A → B → Type 0) (S : H → G → Type 0) (codes : Codes A H) (others : Codes B G) : Type 0 where
  pub keep : (to : ℕ → ℕ) (a : A) (b : B) → R a b → R (codes.keep to a) (others.keep to b)
  pub put : (at size : ℕ) (a : A) (b : B) → R a b → R (codes.put at size a) (others.put at size b)
  pub jump : (place target : ℕ) → R (codes.jump place target) (others.jump place target)
  pub falls : (a : A) (b : B) → R a b → codes.falls a ≡ others.falls b
  pub move : (start end target : ℕ → ℕ) (h : H) (g : G) → S h g → S (codes.move start end target h) (others.move start end target g)
  pub ranges : (h : H) (g : G) → S h g → codes.ranges h ≡ others.ranges g

pub record AlikePieces {A B H G : Type 0} (R : A → B → Type 0) (S : H → G → Type 0) (p : Piece A H) (q : Piece B G) : Type 0 where
  pub code : AllZip R p.code q.code
  pub handlers : AllZip S p.handlers q.handlers

abbrev pub AlikeItems : {A B X Y : Type 0} → (A → B → Type 0) → (X → Y → Type 0) → Item A X → Item B Y → Type 0
AlikeItems R Q (Keeps over a) (Keeps other b) = (over ≡ other) × R a b
AlikeItems R Q (Puts over x) (Puts other y) = (over ≡ other) × Q x y
AlikeItems R Q _ _ = ⊥

abbrev pub AlikeOptions : {X Y : Type 0} → (X → Y → Type 0) → Option X → Option Y → Type 0
AlikeOptions Q None None = Unit {0}
AlikeOptions Q (Some x) (Some y) = Q x y
AlikeOptions Q _ _ = ⊥

pub record AlikeMarks {X Y H G : Type 0} (Q : X → Y → Type 0) (m : Marks X H) (n : Marks Y G) : Type 0 where
  pub entries : (i : ℕ) → AllZip Q (m.entries i) (n.entries i)
  pub passed : (i : ℕ) → AllZip Q (m.passed i) (n.passed i)
  pub met : (i : ℕ) → AllZip Q (m.met i) (n.met i)
  pub instead : (i : ℕ) → AlikeOptions Q (m.instead i) (n.instead i)
  pub completes : (x : X) (y : Y) → Q x y → m.completes x ≡ n.completes y

-- ---- layouts

module _ {A B H G : Type 0} (R : A → B → Type 0) (S : H → G → Type 0) (codes : Codes A H) (others : Codes B G) (alike : AlikeCodes R S codes others) where
  abbrev SameItem : Item A (Piece A H) → Item B (Piece B G) → Type 0
  SameItem = AlikeItems R (AlikePieces R S)

  same_body : (x : Item A (Piece A H)) (y : Item B (Piece B G)) → SameItem x y → body_width x ≡ body_width y
  same_body (Keeps over a) (Keeps other b) h = refl
  same_body (Keeps over a) (Puts other q) h = absurd h
  same_body (Puts over p) (Keeps other b) h = absurd h
  same_body (Puts over p) (Puts other q) h = zip_length R p.code q.code h.1.code

  same_over : (x : Item A (Piece A H)) (y : Item B (Piece B G)) → SameItem x y → over_of x ≡ over_of y
  same_over (Keeps over a) (Keeps other b) h = h.0
  same_over (Keeps over a) (Puts other q) h = absurd h
  same_over (Puts over p) (Keeps other b) h = absurd h
  same_over (Puts over p) (Puts other q) h = h.0

  same_width : (x : Item A (Piece A H)) (y : Item B (Piece B G)) → SameItem x y → width x ≡ width y
  same_width x y h = ap (λ (n : ℕ). n + jump_width (over_of x)) (same_body x y h) ∙ ap (λ (n : ℕ). body_width y + jump_width n) (same_over x y h)

  same_moved : (xs : List (Item A (Piece A H))) (ys : List (Item B (Piece B G))) → AllZip SameItem xs ys → (place : ℕ) → moved_to xs place ≡ moved_to ys place
  same_moved xs ys h zero = refl
  same_moved [] [] h (suc place) = refl
  same_moved [] (y ∷ ys) h (suc place) = absurd h
  same_moved (x ∷ xs) [] h (suc place) = absurd h
  same_moved (x ∷ xs) (y ∷ ys) h (suc place) = ap (λ (n : ℕ). n + moved_to xs place) (same_width x y h.0) ∙ ap (λ (n : ℕ). width y + n) (same_moved xs ys h.1 place)

  same_there : (xs : List (Item A (Piece A H))) (ys : List (Item B (Piece B G))) → AllZip SameItem xs ys → (place : ℕ) → width_there (slice_get xs place) ≡ width_there (slice_get ys place)
  same_there [] [] h place = refl
  same_there [] (y ∷ ys) h place = absurd h
  same_there (x ∷ xs) [] h place = absurd h
  same_there (x ∷ xs) (y ∷ ys) h zero = same_body x y h.0
  same_there (x ∷ xs) (y ∷ ys) h (suc place) = same_there xs ys h.1 place

  same_shut : (xs : List (Item A (Piece A H))) (ys : List (Item B (Piece B G))) → AllZip SameItem xs ys → (end : ℕ) → shut xs end ≡ shut ys end
  same_shut xs ys h zero = refl
  same_shut xs ys h (suc last) = ap (λ (n : ℕ). n + width_there (slice_get xs last)) (same_moved xs ys h last) ∙ ap (λ (n : ℕ). moved_to ys last + n) (same_there xs ys h last)

  alike_jump : (place target over other : ℕ) → over ≡ other → AllZip R (jump_code codes place target over) (jump_code others place target other)
  alike_jump place target zero zero e = tt
  alike_jump place target zero (suc other) e = absurd cc
  alike_jump place target (suc over) zero e = absurd cc
  alike_jump place target (suc over) (suc other) e = (alike.jump place target, tt)

  alike_body : (to : ℕ → ℕ) (at : ℕ) (x : Item A (Piece A H)) (y : Item B (Piece B G)) → SameItem x y → AllZip R (body_code codes to at x) (body_code others to at y)
  alike_body to at (Keeps over a) (Keeps other b) h = (alike.keep to a b h.1, tt)
  alike_body to at (Keeps over a) (Puts other q) h = absurd h
  alike_body to at (Puts over p) (Keeps other b) h = absurd h
  alike_body to at (Puts over p) (Puts other q) h =
      subst (λ (n : ℕ). AllZip R (map (codes.put at (length p.code)) p.code) (map (others.put at n) q.code)) (zip_length R p.code q.code h.1.code)
      (zip_map R R (codes.put at (length p.code)) (others.put at (length p.code)) (alike.put at (length p.code)) p.code q.code h.1.code)

  alike_item : (to : ℕ → ℕ) (place at : ℕ) (x : Item A (Piece A H)) (y : Item B (Piece B G)) → SameItem x y → AllZip R (item_code codes to place at x) (item_code others to place at y)
  alike_item to place at x y h =
      let over = same_over x y h in
      subst (λ (n : ℕ). AllZip R (item_code codes to place at x) (body_code others to at y ++ jump_code others place (to (suc place + n)) (over_of y))) over
      (zip_append R (body_code codes to at x) (body_code others to at y) (jump_code codes place (to (suc place + over_of x)) (over_of x))
      (jump_code others place (to (suc place + over_of x)) (over_of y)) (alike_body to at x y h) (alike_jump place (to (suc place + over_of x)) (over_of x) (over_of y) over))

  alike_from : (to : ℕ → ℕ) (place at : ℕ) (xs : List (Item A (Piece A H))) (ys : List (Item B (Piece B G))) → AllZip SameItem xs ys
      → AllZip R (code_from codes to place at xs) (code_from others to place at ys)
  alike_from to place at [] [] h = tt
  alike_from to place at [] (y ∷ ys) h = absurd h
  alike_from to place at (x ∷ xs) [] h = absurd h
  alike_from to place at (x ∷ xs) (y ∷ ys) h =
      zip_append R (item_code codes to place at x) (item_code others to place at y) (code_from codes to (suc place) (at + width x) xs) (code_from others to (suc place) (at + width y) ys)
      (alike_item to place at x y h.0)
      (subst (λ (n : ℕ). AllZip R (code_from codes to (suc place) (at + width x) xs) (code_from others to (suc place) (at + n) ys)) (same_width x y h.0)
      (alike_from to (suc place) (at + width x) xs ys h.1))

  pub laid_code_alike : (xs : List (Item A (Piece A H))) (ys : List (Item B (Piece B G))) → AllZip SameItem xs ys → AllZip R (laid_code codes xs) (laid_code others ys)
  laid_code_alike xs ys h =
      subst (λ to. AllZip R (laid_code codes xs) (code_from others to 0 0 ys)) (same_maps (moved_to xs) (moved_to ys) (same_moved xs ys h)) (alike_from (moved_to xs) 0 0 xs ys h)

  alike_own : (at : ℕ) (x : Item A (Piece A H)) (y : Item B (Piece B G)) → SameItem x y → AllZip S (own_handlers codes at x) (own_handlers others at y)
  alike_own at (Keeps over a) (Keeps other b) h = tt
  alike_own at (Keeps over a) (Puts other q) h = absurd h
  alike_own at (Puts over p) (Keeps other b) h = absurd h
  alike_own at (Puts over p) (Puts other q) h =
      zip_map S S (codes.move (λ s. at + s) (λ e. at + e) (λ t. at + t)) (others.move (λ s. at + s) (λ e. at + e) (λ t. at + t))
      (alike.move (λ s. at + s) (λ e. at + e) (λ t. at + t)) p.handlers q.handlers h.1.handlers

  alike_own_from : (at : ℕ) (xs : List (Item A (Piece A H))) (ys : List (Item B (Piece B G))) → AllZip SameItem xs ys → AllZip S (own_from codes at xs) (own_from others at ys)
  alike_own_from at [] [] h = tt
  alike_own_from at [] (y ∷ ys) h = absurd h
  alike_own_from at (x ∷ xs) [] h = absurd h
  alike_own_from at (x ∷ xs) (y ∷ ys) h =
      zip_append S (own_handlers codes at x) (own_handlers others at y) (own_from codes (at + width x) xs) (own_from others (at + width y) ys) (alike_own at x y h.0)
      (subst (λ (n : ℕ). AllZip S (own_from codes (at + width x) xs) (own_from others (at + n) ys)) (same_width x y h.0) (alike_own_from (at + width x) xs ys h.1))

  pub laid_handlers_alike : (xs : List (Item A (Piece A H))) (ys : List (Item B (Piece B G))) (hs : List H) (gs : List G) → AllZip SameItem xs ys → AllZip S hs gs
      → AllZip S (laid_handlers codes xs hs) (laid_handlers others ys gs)
  laid_handlers_alike xs ys hs gs h k =
      let moved = same_maps (moved_to xs) (moved_to ys) (same_moved xs ys h) in
      let shuts = same_maps (shut xs) (shut ys) (same_shut xs ys h) in
      let old = map (codes.move (moved_to xs) (shut xs) (moved_to xs)) hs in
      let new = map (others.move (moved_to xs) (shut xs) (moved_to xs)) gs in
      let whole = own_from others 0 ys ++ map (others.move (moved_to ys) (shut ys) (moved_to ys)) gs in
      let same : own_from others 0 ys ++ new ≡ whole =
      ap (λ (to : ℕ → ℕ). own_from others 0 ys ++ map (others.move to (shut xs) to) gs) moved
      ∙ ap (λ (end : ℕ → ℕ). own_from others 0 ys ++ map (others.move (moved_to ys) end (moved_to ys)) gs) shuts in
      subst (λ l. AllZip S (laid_handlers codes xs hs) (filter others.ranges l)) same
      (zip_filter S codes.ranges others.ranges alike.ranges (own_from codes 0 xs ++ old) (own_from others 0 ys ++ new)
      (zip_append S (own_from codes 0 xs) (own_from others 0 ys) old new (alike_own_from 0 xs ys h)
      (zip_map S S (codes.move (moved_to xs) (shut xs) (moved_to xs)) (others.move (moved_to xs) (shut xs) (moved_to xs)) (alike.move (moved_to xs) (shut xs) (moved_to xs)) hs gs k)))

-- ---- marks

module _ {A B X Y H G : Type 0} (R : A → B → Type 0) (Q : X → Y → Type 0) (S : H → G → Type 0) (codes : Codes A H) (others : Codes B G) (alike : AlikeCodes R S codes others)
    (m : Marks X H) (n : Marks Y G) (marks : AlikeMarks Q m n) where
  same_entries : (i : ℕ) → length (m.entries i) ≡ length (n.entries i)
  same_entries i = zip_length Q (m.entries i) (n.entries i) (marks.entries i)

  same_passed : (i : ℕ) → length (m.passed i) ≡ length (n.passed i)
  same_passed i = zip_length Q (m.passed i) (n.passed i) (marks.passed i)

  same_met : (i : ℕ) → length (m.met i) ≡ length (n.met i)
  same_met i = zip_length Q (m.met i) (n.met i) (marks.met i)

  same_places : (i : ℕ) → places_of m i ≡ places_of n i
  same_places i =
      ap (λ (k : ℕ). suc (k + (length (m.passed i) + length (m.met i)))) (same_entries i)
      ∙ ap (λ (k : ℕ). suc (length (n.entries i) + (k + length (m.met i)))) (same_passed i)
      ∙ ap (λ (k : ℕ). suc (length (n.entries i) + (length (n.passed i) + k))) (same_met i)

  same_first : (i : ℕ) → first_of m i ≡ first_of n i
  same_first zero = ap lead_width (same_entries 0)
  same_first (suc i) = ap (λ (k : ℕ). k + places_of m i) (same_first i) ∙ ap (λ (k : ℕ). first_of n i + k) (same_places i)

  same_arrive : (i : ℕ) → arrive m i ≡ arrive n i
  same_arrive i =
      ap (λ (k : ℕ). k + (length (m.entries i) + length (m.passed i))) (same_first i)
      ∙ ap (λ (k : ℕ). first_of n i + (k + length (m.passed i))) (same_entries i)
      ∙ ap (λ (k : ℕ). first_of n i + (length (n.entries i) + k)) (same_passed i)

  alike_entries : (passed : ℕ) (xs : List X) (ys : List Y) → AllZip Q xs ys → AllZip (AlikeItems R Q) (entry_items {A = A} m passed xs) (entry_items {A = B} n passed ys)
  alike_entries passed [] [] h = tt
  alike_entries passed [] (y ∷ ys) h = absurd h
  alike_entries passed (x ∷ xs) [] h = absurd h
  alike_entries passed (x ∷ xs) (y ∷ ys) h = (
    (
      ap (λ (b : Bool). over_if b (length xs + passed)) (marks.completes x y h.0)
          ∙ ap (λ (k : ℕ). over_if (n.completes y) (k + passed)) (zip_length Q xs ys h.1),
      h.0,
    ),
    alike_entries passed xs ys h.1,
  )

  alike_last : (i : ℕ) (a : A) (b : B) (o : Option X) (p : Option Y) → R a b → AlikeOptions Q o p → AlikeItems R Q (last_item codes m i a o) (last_item others n i b p)
  alike_last i a b None None h k = (
    ap (λ (c : Bool). over_if c (length (m.entries (suc i)))) (alike.falls a b h) ∙ ap (over_if (others.falls b)) (same_entries (suc i)),
    subst (λ to. R (codes.keep (arrive m) a) (others.keep to b)) (same_maps (arrive m) (arrive n) same_arrive) (alike.keep (arrive m) a b h),
  )
  alike_last i a b None (Some y) h k = absurd k
  alike_last i a b (Some x) None h k = absurd k
  alike_last i a b (Some x) (Some y) h k =
      (ap (λ (c : Bool). over_if c (length (m.entries (suc i)))) (marks.completes x y k) ∙ ap (over_if (n.completes y)) (same_entries (suc i)), k)

  abbrev put : X → Item A X
  put x = Puts 0 x

  abbrev put_other : Y → Item B Y
  put_other y = Puts 0 y

  alike_puts : (xs : List X) (ys : List Y) → AllZip Q xs ys → AllZip (AlikeItems R Q) (map put xs) (map put_other ys)
  alike_puts xs ys h = zip_map Q (AlikeItems R Q) put put_other (λ x y k. (refl, k)) xs ys h

  alike_index : (i : ℕ) (a : A) (b : B) → R a b → AllZip (AlikeItems R Q) (index_items codes m i a) (index_items others n i b)
  alike_index i a b h =
      let met = zip_append (AlikeItems R Q) (map put (m.met i)) (map put_other (n.met i)) (last_item codes m i a (m.instead i) ∷ []) (last_item others n i b (n.instead i) ∷ [])
      (alike_puts (m.met i) (n.met i) (marks.met i)) (alike_last i a b (m.instead i) (n.instead i) h (marks.instead i), tt) in
      let passed = zip_append (AlikeItems R Q) (map put (m.passed i)) (map put_other (n.passed i))
      (map put (m.met i) ++ last_item codes m i a (m.instead i) ∷ []) (map put_other (n.met i) ++ last_item others n i b (n.instead i) ∷ [])
      (alike_puts (m.passed i) (n.passed i) (marks.passed i)) met in
      zip_append (AlikeItems R Q) (entry_items m (length (m.passed i)) (m.entries i)) (entry_items n (length (n.passed i)) (n.entries i))
      (map put (m.passed i) ++ (map put (m.met i) ++ last_item codes m i a (m.instead i) ∷ []))
      (map put_other (n.passed i) ++ (map put_other (n.met i) ++ last_item others n i b (n.instead i) ∷ []))
      (subst (λ (k : ℕ). AllZip (AlikeItems R Q) (entry_items {A = A} m (length (m.passed i)) (m.entries i)) (entry_items {A = B} n k (n.entries i))) (same_passed i)
      (alike_entries (length (m.passed i)) (m.entries i) (n.entries i) (marks.entries i))) passed

  alike_items_from : (i : ℕ) (xs : List A) (ys : List B) → AllZip R xs ys → AllZip (AlikeItems R Q) (items_from codes m i xs) (items_from others n i ys)
  alike_items_from i [] [] h = tt
  alike_items_from i [] (y ∷ ys) h = absurd h
  alike_items_from i (x ∷ xs) [] h = absurd h
  alike_items_from i (x ∷ xs) (y ∷ ys) h =
      zip_append (AlikeItems R Q) (index_items codes m i x) (index_items others n i y) (items_from codes m (suc i) xs) (items_from others n (suc i) ys)
      (alike_index i x y h.0) (alike_items_from (suc i) xs ys h.1)

  alike_lead : (j k : ℕ) → j ≡ k → AllZip (AlikeItems R Q) (lead_items {X = X} codes j) (lead_items {X = Y} others k)
  alike_lead zero zero e = tt
  alike_lead zero (suc k) e = absurd cc
  alike_lead (suc j) zero e = absurd cc
  alike_lead (suc j) (suc k) e =
      ((refl, subst (λ (l : ℕ). R (codes.jump 0 (suc (suc j))) (others.jump 0 (suc l))) e (alike.jump 0 (suc (suc j)))), tt)

  pub marked_items_alike : (xs : List A) (ys : List B) → AllZip R xs ys → AllZip (AlikeItems R Q) (marked_items codes m xs) (marked_items others n ys)
  marked_items_alike xs ys h =
      zip_append (AlikeItems R Q) (lead_items codes (length (m.entries 0))) (lead_items others (length (n.entries 0))) (items_from codes m 0 xs) (items_from others n 0 ys)
      (alike_lead (length (m.entries 0)) (length (n.entries 0)) (same_entries 0)) (alike_items_from 0 xs ys h)

  by_entry : (o : Option ℕ) (i : ℕ) → entry_target m o i ≡ entry_target n o i
  by_entry None i = same_arrive i
  by_entry (Some entry) i = ap (λ (k : ℕ). k + entry) (same_first i)

  same_target : (o p : Option ℕ) (i : ℕ) → o ≡ p → entry_target m o i ≡ entry_target n p i
  same_target o p i e = ap (λ x. entry_target m x i) e ∙ by_entry p i

  alike_handler : (h : H) (g : G) → S h g × (m.entry_of h ≡ n.entry_of g) → S (codes.move (first_of m) (first_of m) (entry_target m (m.entry_of h)) h) (others.move (first_of n) (first_of n) (entry_target n (n.entry_of g)) g)
  alike_handler h g k =
      subst (λ (first : ℕ → ℕ). S (codes.move (first_of m) (first_of m) (entry_target m (m.entry_of h)) h) (others.move first first (entry_target n (n.entry_of g)) g))
      (same_maps (first_of m) (first_of n) same_first)
      (subst (λ (to : ℕ → ℕ). S (codes.move (first_of m) (first_of m) (entry_target m (m.entry_of h)) h) (others.move (first_of m) (first_of m) to g))
      (same_maps (entry_target m (m.entry_of h)) (entry_target n (n.entry_of g)) (λ i. same_target (m.entry_of h) (n.entry_of g) i k.1))
      (alike.move (first_of m) (first_of m) (entry_target m (m.entry_of h)) h g k.0))

  -- entries that are alike meet the same
  pub marked_handlers_alike : (hs : List H) (gs : List G) → AllZip S hs gs → AllZip (λ h g. m.entry_of h ≡ n.entry_of g) hs gs → AllZip S (marked_handlers codes m hs) (marked_handlers others n gs)
  marked_handlers_alike hs gs k e =
      zip_map (λ h g. S h g × (m.entry_of h ≡ n.entry_of g)) S (λ h. codes.move (first_of m) (first_of m) (entry_target m (m.entry_of h)) h)
      (λ g. others.move (first_of n) (first_of n) (entry_target n (n.entry_of g)) g) alike_handler hs gs (zip_both S (λ h g. m.entry_of h ≡ n.entry_of g) hs gs k e)
