-- The same layout of other instructions: maps from the one type to the other.
use Rattle.std.specs.Prelude.{◌≡◌, ℕ, map, option_map}
use Rattle.je_splice.specs.Block.{Piece}
use Rattle.je_splice.specs.Layout.{Codes, Item, Keeps, Puts}
use Rattle.je_splice.specs.Marks.{Marks}

-- what is done to instructions and entries, the maps take to what is done to their images
pub record MapsCodes {A B H G : Type 0} (f : A → B) (g : H → G) (codes : Codes A H)
    (others : Codes B G) : Type 0 where
  pub keep : (to : ℕ → ℕ) (a : A) → f (codes.keep to a) ≡ others.keep to (f a)
  pub put : (at size : ℕ) (a : A) → f (codes.put at size a) ≡ others.put at size (f a)
  pub jump : (place target : ℕ) → f (codes.jump place target) ≡ others.jump place target
  pub falls : (a : A) → codes.falls a ≡ others.falls (f a)
  pub move : (start end target : ℕ → ℕ) (h : H) →
      g (codes.move start end target h) ≡ others.move start end target (g h)
  pub ranges : (h : H) → codes.ranges h ≡ others.ranges (g h)

abbrev pub mapped_piece : {A B H G : Type 0} → (A → B) → (H → G) → Piece A H → Piece B G
mapped_piece f g piece =
    record { code = map f piece.code; handlers = map g piece.handlers }

abbrev pub mapped_item : {A B X Y : Type 0} → (A → B) → (X → Y) → Item A X → Item B Y
mapped_item f x_map (Keeps over instruction) = Keeps over (f instruction)
mapped_item f x_map (Puts over piece) = Puts over (x_map piece)

-- the pieces of the one are mapped to those of the other, at each index
pub record MapsMarks {X Y H G : Type 0} (x_map : X → Y) (g : H → G) (m : Marks X H)
    (others : Marks Y G) : Type 0 where
  pub entries : (i : ℕ) → map x_map (m.entries i) ≡ others.entries i
  pub passed : (i : ℕ) → map x_map (m.passed i) ≡ others.passed i
  pub met : (i : ℕ) → map x_map (m.met i) ≡ others.met i
  pub instead : (i : ℕ) → option_map x_map (m.instead i) ≡ others.instead i
  pub entry_of : (h : H) → m.entry_of h ≡ others.entry_of (g h)
  pub completes : (x : X) → m.completes x ≡ others.completes (x_map x)
