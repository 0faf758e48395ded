-- What stands where in laid code.
use Rattle.std.proofs.Common.{◌≡◌, ℕ, zero, suc, ◌+◌, ◌<◌, ◌≤◌, List, [], ◌∷◌, ◌++◌, length, Option, Some, None, refl, sym, ap, ◌∙◌, arith, length-append}
use Rattle.std.specs.Prelude.{map, option_map, slice_get}
use Rattle.je_splice.specs.Block.{Piece}
use Rattle.je_splice.specs.Layout.{Codes, Item, Keeps, Puts, over_of, body_width, jump_width, width, moved_to, width_there, shut, body_code, jump_code, item_code, code_from, laid_code}

-- ---- lists

some_is : {A : Type 0} (x y : A) → Some x ≡ Some y → x ≡ y
some_is x y e = cc

pub get_front : {A : Type 0} (xs ys : List A) (k : ℕ) (a : A) → slice_get xs k ≡ Some a → slice_get (xs ++ ys) k ≡ Some a
get_front [] ys k a h = absurd cc
get_front (x ∷ xs) ys zero a h = h
get_front (x ∷ xs) ys (suc k) a h = get_front xs ys k a h

pub get_behind : {A : Type 0} (xs ys : List A) (k n : ℕ) → n ≡ length xs + k → slice_get (xs ++ ys) n ≡ slice_get ys k
get_behind [] ys k n e = let same : n ≡ k = omega (arith, e) in ap (slice_get ys) same
get_behind (x ∷ xs) ys k zero e = absurd (omega (arith, e))
get_behind (x ∷ xs) ys k (suc n) e = get_behind xs ys k n (omega (arith, e))

pub get_mapped : {A B : Type 0} (f : A → B) (xs : List A) (k : ℕ) → slice_get (map f xs) k ≡ option_map f (slice_get xs k)
get_mapped f [] k = refl
get_mapped f (x ∷ xs) zero = refl
get_mapped f (x ∷ xs) (suc k) = get_mapped f xs k

pub mapped_length : {A B : Type 0} (f : A → B) (xs : List A) → length (map f xs) ≡ length xs
mapped_length f [] = refl
mapped_length f (x ∷ xs) = ap suc (mapped_length f xs)

pub get_within : {A : Type 0} (xs : List A) (k : ℕ) → k < length xs → slice_get xs k ≡ None → ⊥
get_within [] k less e = absurd (omega (arith, less))
get_within (x ∷ xs) zero less e = absurd cc
get_within (x ∷ xs) (suc k) less e = get_within xs k (omega (arith, less)) e

pub get_less : {A : Type 0} (xs : List A) (k : ℕ) (a : A) → slice_get xs k ≡ Some a → k < length xs
get_less [] k a e = absurd cc
get_less (x ∷ xs) zero a e = omega arith
get_less (x ∷ xs) (suc k) a e = omega (arith, get_less xs k a e)

module _ {A H : Type 0} (codes : Codes A H) where
  -- ---- widths

  pub body_length : (to : ℕ → ℕ) (at : ℕ) (item : Item A (Piece A H)) → length (body_code codes to at item) ≡ body_width item
  body_length to at (Keeps over a) = refl
  body_length to at (Puts over piece) = mapped_length (codes.put at (length piece.code)) piece.code

  jump_length : (place target over : ℕ) → length (jump_code codes place target over) ≡ jump_width over
  jump_length place target zero = refl
  jump_length place target (suc over) = refl

  pub item_length : (to : ℕ → ℕ) (place at : ℕ) (item : Item A (Piece A H)) → length (item_code codes to place at item) ≡ width item
  item_length to place at item =
      let sum = length-append (body_code codes to at item) (jump_code codes place (to (suc place + over_of item)) (over_of item)) in
      let body = body_length to at item in
      let jump = jump_length place (to (suc place + over_of item)) (over_of item) in
      omega (arith, sum, body, jump)

  -- ---- what stands where

  -- what stands in the code of an item, stands in the whole
  pub item_stands : (to : ℕ → ℕ) (items : List (Item A (Piece A H))) (base at place k : ℕ) (item : Item A (Piece A H)) (a : A) → slice_get items place ≡ Some item
      → slice_get (item_code codes to (base + place) (at + moved_to items place) item) k ≡ Some a
      → slice_get (code_from codes to base at items) (moved_to items place + k) ≡ Some a
  item_stands to [] base at place k item a is h = absurd cc
  item_stands to (x ∷ items) base at zero k item a is h =
      let same : x ≡ item = some_is x item is in
      let no_place : base + 0 ≡ base = omega arith in
      let no_width : at + 0 ≡ at = omega arith in
      let no_more : 0 + k ≡ k = omega arith in
      ap (slice_get (code_from codes to base at (x ∷ items))) no_more
      ∙ get_front (item_code codes to base at x) (code_from codes to (suc base) (at + width x) items) k a
      (ap (λ y. slice_get (item_code codes to base at y) k) same
      ∙ ap (λ (p : ℕ). slice_get (item_code codes to p at item) k) (sym no_place)
      ∙ ap (λ (n : ℕ). slice_get (item_code codes to (base + 0) n item) k) (sym no_width) ∙ h)
  item_stands to (x ∷ items) base at (suc place) k item a is h =
      let size = item_length to base at x in
      let places : suc base + place ≡ base + suc place = omega arith in
      let widths : at + width x + moved_to items place ≡ at + (width x + moved_to items place) = omega arith in
      get_behind (item_code codes to base at x) (code_from codes to (suc base) (at + width x) items) (moved_to items place + k) (width x + moved_to items place + k) (omega (arith, size))
      ∙ item_stands to items (suc base) (at + width x) place k item a is
      (ap (λ (p : ℕ). slice_get (item_code codes to p (at + width x + moved_to items place) item) k) places
      ∙ ap (λ (n : ℕ). slice_get (item_code codes to (base + suc place) n item) k) widths ∙ h)

  -- the item's own code stands where it begins
  pub body_stands : (items : List (Item A (Piece A H))) (place k : ℕ) (item : Item A (Piece A H)) (a : A) → slice_get items place ≡ Some item
      → slice_get (body_code codes (moved_to items) (moved_to items place) item) k ≡ Some a → slice_get (laid_code codes items) (moved_to items place + k) ≡ Some a
  body_stands items place k item a is h =
      let to = moved_to items in
      let no_place : 0 + place ≡ place = omega arith in
      let no_width : 0 + moved_to items place ≡ moved_to items place = omega arith in
      item_stands to items 0 0 place k item a is
      (get_front (body_code codes to (0 + moved_to items place) item) (jump_code codes (0 + place) (to (suc (0 + place) + over_of item)) (over_of item)) k a
      (ap (λ (n : ℕ). slice_get (body_code codes to n item) k) no_width ∙ h))

  -- the jump stands behind it
  pub jump_stands : (items : List (Item A (Piece A H))) (place over : ℕ) (item : Item A (Piece A H)) → slice_get items place ≡ Some item → over_of item ≡ suc over
      → slice_get (laid_code codes items) (moved_to items place + body_width item) ≡ Some (codes.jump place (moved_to items (suc place + over_of item)))
  jump_stands items place over item is e =
      let to = moved_to items in
      let no_place : 0 + place ≡ place = omega arith in
      let body = body_length to (0 + moved_to items place) item in
      item_stands to items 0 0 place (body_width item) item (codes.jump place (to (suc place + over_of item))) is
      (get_behind (body_code codes to (0 + moved_to items place) item) (jump_code codes (0 + place) (to (suc (0 + place) + over_of item)) (over_of item)) 0 (body_width item) (omega (arith, body))
      ∙ ap (λ (n : ℕ). slice_get (jump_code codes (0 + place) (to (suc (0 + place) + over_of item)) n) 0) e
      ∙ ap (λ (p : ℕ). Some (codes.jump p (to (suc p + over_of item)))) no_place)

  -- the whole is as long as its places
  from_length : (to : ℕ → ℕ) (items : List (Item A (Piece A H))) (base at : ℕ) → length (code_from codes to base at items) ≡ moved_to items (length items)
  from_length to [] base at = refl
  from_length to (x ∷ items) base at =
      let size = item_length to base at x in
      let sum = length-append (item_code codes to base at x) (code_from codes to (suc base) (at + width x) items) in
      omega (arith, size, sum, from_length to items (suc base) (at + width x))

  pub laid_length : (items : List (Item A (Piece A H))) → length (laid_code codes items) ≡ moved_to items (length items)
  laid_length items = from_length (moved_to items) items 0 0

-- ---- where places begin

module _ {A H : Type 0} where
  -- a place begins behind the one before it
  pub next_begins : (items : List (Item A (Piece A H))) (place : ℕ) (item : Item A (Piece A H)) → slice_get items place ≡ Some item
      → moved_to items (suc place) ≡ moved_to items place + width item
  next_begins [] place item is = absurd cc
  next_begins (x ∷ items) zero item is =
      let same : x ≡ item = some_is x item is in
      let none : width x + 0 ≡ 0 + width x = omega arith in
      none ∙ ap (λ y. 0 + width y) same
  next_begins (x ∷ items) (suc place) item is =
      let rest = next_begins items place item is in
      let sum : width x + (moved_to items place + width item) ≡ (width x + moved_to items place) + width item = omega arith in
      ap (λ (n : ℕ). width x + n) rest ∙ sum

  pub rises : (items : List (Item A (Piece A H))) (a b : ℕ) → a ≤ b → moved_to items a ≤ moved_to items b
  rises items zero b h = omega arith
  rises items (suc a) zero h = absurd (omega (arith, h))
  rises [] (suc a) (suc b) h = omega arith
  rises (x ∷ items) (suc a) (suc b) h = omega (arith, rises items a b (omega (arith, h)))

  -- none begins behind the end
  pub ends_within : (items : List (Item A (Piece A H))) (place : ℕ) → moved_to items place ≤ moved_to items (length items)
  ends_within items zero = omega arith
  ends_within [] (suc place) = omega arith
  ends_within (x ∷ items) (suc place) = omega (arith, ends_within items place)

  within_by : (items : List (Item A (Piece A H))) (last : ℕ) (there : Option (Item A (Piece A H))) → slice_get items last ≡ there
      → moved_to items last + width_there there ≤ moved_to items (suc last)
  within_by items last None is = omega (arith, rises items last (suc last) (omega arith))
  within_by items last (Some item) is = omega (arith, next_begins items last item is)

  -- a range ends no later than the next place begins
  pub shut_within : (items : List (Item A (Piece A H))) (last : ℕ) → shut items (suc last) ≤ moved_to items (suc last)
  shut_within items last = within_by items last (slice_get items last) refl
