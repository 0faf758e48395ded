-- What maps instructions maps what is laid out.
use Rattle.std.proofs.Common.{◌≡◌, ℕ, List, [], ◌∷◌, Option, Some, None, refl, sym, ap, subst, ◌∙◌}
use Rattle.std.specs.Prelude.{map, option_map}
use Rattle.std.specs.List.{AllZip}
use Rattle.je_splice.specs.Block.{Piece}
use Rattle.je_splice.specs.Layout.{Codes, Item, Keeps, Puts, laid_code, laid_handlers}
use Rattle.je_splice.specs.Marks.{Marks, marked_items, marked_handlers}
use Rattle.je_splice.specs.Mapped.{MapsCodes, mapped_piece, mapped_item, MapsMarks}
use Rattle.je_splice.proofs.AlikeLemmas.{AlikeCodes, AlikePieces, AlikeItems, AlikeOptions, AlikeMarks, laid_code_alike, laid_handlers_alike, marked_items_alike, marked_handlers_alike}

-- the one is the other, mapped
abbrev Is : {A B : Type 0} → (A → B) → A → B → Type 0
Is f a b = f a ≡ b

all_mapped : {A B : Type 0} (f : A → B) (xs : List A) → AllZip (Is f) xs (map f xs)
all_mapped f [] = tt
all_mapped f (x ∷ xs) = (refl, all_mapped f xs)

is_mapped : {A B : Type 0} (f : A → B) (xs : List A) (ys : List B) → AllZip (Is f) xs ys → ys ≡ map f xs
is_mapped f [] [] h = refl
is_mapped f [] (y ∷ ys) h = absurd h
is_mapped f (x ∷ xs) [] h = absurd h
is_mapped f (x ∷ xs) (y ∷ ys) h = ap (λ z. z ∷ ys) (sym h.0) ∙ ap (λ l. f x ∷ l) (is_mapped f xs ys h.1)

all_are : {A B : Type 0} (f : A → B) (xs : List A) (ys : List B) → map f xs ≡ ys → AllZip (Is f) xs ys
all_are f xs ys e = subst (AllZip (Is f) xs) e (all_mapped f xs)

module _ {A B H G : Type 0} (f : A → B) (g : H → G) (codes : Codes A H) (others : Codes B G) (maps : MapsCodes f g codes others) where
  alike_codes : AlikeCodes (Is f) (Is g) codes others
  alike_codes = record {
    keep = λ to a b e. maps.keep to a ∙ ap (others.keep to) e;
    put = λ at size a b e. maps.put at size a ∙ ap (others.put at size) e;
    jump = maps.jump;
    falls = λ a b e. maps.falls a ∙ ap others.falls e;
    move = λ start end target h k e. maps.move start end target h ∙ ap (others.move start end target) e;
    ranges = λ h k e. maps.ranges h ∙ ap others.ranges e;
  }

  alike_items : (items : List (Item A (Piece A H))) → AllZip (AlikeItems (Is f) (AlikePieces (Is f) (Is g))) items (map (mapped_item f (mapped_piece f g)) items)
  alike_items [] = tt
  alike_items (Keeps over a ∷ items) = ((refl, refl), alike_items items)
  alike_items (Puts over piece ∷ items) =
      ((refl, record { code = all_mapped f piece.code; handlers = all_mapped g piece.handlers }), alike_items items)

  pub code_mapped : (items : List (Item A (Piece A H))) → laid_code others (map (mapped_item f (mapped_piece f g)) items) ≡ map f (laid_code codes items)
  code_mapped items =
      is_mapped f (laid_code codes items) (laid_code others (map (mapped_item f (mapped_piece f g)) items))
      (laid_code_alike (Is f) (Is g) codes others alike_codes items (map (mapped_item f (mapped_piece f g)) items) (alike_items items))

  pub handlers_mapped : (items : List (Item A (Piece A H))) (handlers : List H)
      → laid_handlers others (map (mapped_item f (mapped_piece f g)) items) (map g handlers) ≡ map g (laid_handlers codes items handlers)
  handlers_mapped items handlers =
      is_mapped g (laid_handlers codes items handlers) (laid_handlers others (map (mapped_item f (mapped_piece f g)) items) (map g handlers))
      (laid_handlers_alike (Is f) (Is g) codes others alike_codes items (map (mapped_item f (mapped_piece f g)) items) handlers (map g handlers) (alike_items items) (all_mapped g handlers))

  module _ {X Y : Type 0} (x_map : X → Y) (m : Marks X H) (n : Marks Y G) (marks : MapsMarks x_map g m n) where
    same_option : (o : Option X) (p : Option Y) → option_map x_map o ≡ p → AlikeOptions (Is x_map) o p
    same_option None None e = tt
    same_option None (Some y) e = absurd cc
    same_option (Some x) None e = absurd cc
    same_option (Some x) (Some y) e = cc

    alike_marks : AlikeMarks (Is x_map) m n
    alike_marks = record {
      entries = λ i. all_are x_map (m.entries i) (n.entries i) (marks.entries i);
      passed = λ i. all_are x_map (m.passed i) (n.passed i) (marks.passed i);
      met = λ i. all_are x_map (m.met i) (n.met i) (marks.met i);
      instead = λ i. same_option (m.instead i) (n.instead i) (marks.instead i);
      completes = λ x y e. marks.completes x ∙ ap n.completes e;
    }

    all_meet : (hs : List H) → AllZip (λ h k. m.entry_of h ≡ n.entry_of k) hs (map g hs)
    all_meet [] = tt
    all_meet (h ∷ hs) = (marks.entry_of h, all_meet hs)

    same_item : (x : Item A X) (y : Item B Y) → AlikeItems (Is f) (Is x_map) x y → y ≡ mapped_item f x_map x
    same_item (Keeps over a) (Keeps other b) h = ap (λ (k : ℕ). Keeps k b) (sym h.0) ∙ ap (λ c. Keeps over c) (sym h.1)
    same_item (Keeps over a) (Puts other y) h = absurd h
    same_item (Puts over x) (Keeps other b) h = absurd h
    same_item (Puts over x) (Puts other y) h = ap (λ (k : ℕ). Puts k y) (sym h.0) ∙ ap (λ c. Puts over c) (sym h.1)

    -- items that are alike by maps are mapped
    same_items : (xs : List (Item A X)) (ys : List (Item B Y)) → AllZip (AlikeItems (Is f) (Is x_map)) xs ys → ys ≡ map (mapped_item f x_map) xs
    same_items [] [] h = refl
    same_items [] (y ∷ ys) h = absurd h
    same_items (x ∷ xs) [] h = absurd h
    same_items (x ∷ xs) (y ∷ ys) h = ap (λ z. z ∷ ys) (same_item x y h.0) ∙ ap (λ l. mapped_item f x_map x ∷ l) (same_items xs ys h.1)

    pub items_mapped : (code : List A) → marked_items others n (map f code) ≡ map (mapped_item f x_map) (marked_items codes m code)
    items_mapped code =
        same_items (marked_items codes m code) (marked_items others n (map f code))
        (marked_items_alike (Is f) (Is x_map) (Is g) codes others alike_codes m n alike_marks code (map f code) (all_mapped f code))

    pub marked_mapped : (handlers : List H) → marked_handlers others n (map g handlers) ≡ map g (marked_handlers codes m handlers)
    marked_mapped handlers =
        is_mapped g (marked_handlers codes m handlers) (marked_handlers others n (map g handlers))
        (marked_handlers_alike (Is f) (Is x_map) (Is g) codes others alike_codes m n alike_marks handlers (map g handlers) (all_mapped g handlers) (all_meet handlers))
