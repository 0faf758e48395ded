-- Marks of lists that put the same are marks of the same.
use Rattle.std.proofs.Common.{◌≡◌, ℕ, ◌+◌, List, [], ◌∷◌, length, map, Option, Some, None, Bool, true, false, not, cond, ◌&&◌, nat_lt, nat_eq, option_map, refl, sym, ap, ◌∙◌}
use Rattle.std.specs.Prelude.{filter}
use Rattle.std.specs.List.{AllZip, find, prefix_len, position_or_len, position}
use Rattle.je_consts.specs.declared.place.Place.{Place}
use Rattle.je_machine.specs.Operation.{Handler}
use Rattle.je_instr.specs.CodeProgram.{IsHandlerOf}
use Rattle.je_instr.proofs.ZipLemmas.{zip_each}
use Rattle.je_splice.specs.Laid.{Fragment}
use Rattle.je_splice.specs.Put.{PutAt, PutBefore, is_passed, is_met, is_instead, leads_to, marks_of}
use Rattle.je_splice.specs.Resolved.{Entry, CodePiece, IsPutAs, IsInstead, AreMarksOf, IsPlacedAs, IsMetAs}
use Rattle.je_splice.proofs.AlikeLemmas.{zip_length, zip_map, zip_filter}

-- ---- lists that pass a test alike

same_cond : (b c : Bool) (m n : ℕ) → b ≡ c → m ≡ n → cond b (1 + m) 0 ≡ cond c (1 + n) 0
same_cond b c m n e f = ap (λ (x : Bool). cond x (1 + m) 0) e ∙ ap (λ (x : ℕ). cond c (1 + x) 0) f

same_prefix : {A B : Type 0} (p : A → Bool) (q : B → Bool) (xs : List A) (ys : List B) → AllZip (λ x y. p x ≡ q y) xs ys → prefix_len p xs ≡ prefix_len q ys
same_prefix p q [] [] h = refl
same_prefix p q [] (y ∷ ys) h = absurd h
same_prefix p q (x ∷ xs) [] h = absurd h
same_prefix p q (x ∷ xs) (y ∷ ys) h = same_cond (p x) (q y) (prefix_len p xs) (prefix_len q ys) h.0 (same_prefix p q xs ys h.1)

abbrev at_place : ℕ → ℕ → Option ℕ
at_place place size = cond (nat_lt place size) (Some place) None

same_position : {A B : Type 0} (p : A → Bool) (q : B → Bool) (xs : List A) (ys : List B) → AllZip (λ x y. p x ≡ q y) xs ys → position p xs ≡ position q ys
same_position {A = A} {B = B} p q xs ys h =
    let first : position_or_len p xs ≡ position_or_len q ys =
    same_prefix (λ x. not (p x)) (λ y. not (q y)) xs ys (zip_each (λ (x : A) (y : B). p x ≡ q y) (λ (x : A) (y : B). not (p x) ≡ not (q y)) (λ x y e. ap not e) xs ys h) in
    ap (λ (n : ℕ). at_place n (length xs)) first ∙ ap (at_place (position_or_len q ys)) (zip_length (λ (x : A) (y : B). p x ≡ q y) xs ys h)

module _ {X Y : Type 0} (consts : List Place) (piece_of : X → CodePiece) (fragment_of : Y → Fragment) (completes : X → Bool) (goes_on : Y → Bool) where
  abbrev Piece : X → Y → Type 0
  Piece = IsPutAs consts piece_of fragment_of completes goes_on

  abbrev Placed : PutAt X → PutAt Y → Type 0
  Placed = IsPlacedAs consts piece_of fragment_of completes goes_on

  -- ---- what is put at indexes

  same_at : (i : ℕ) (a : PutAt X) (b : PutAt Y) → Placed a b → nat_eq a.at i ≡ nat_eq b.at i
  same_at i a b h = ap (λ (n : ℕ). nat_eq n i) h.at

  same_passed : (i : ℕ) (a : PutAt X) (b : PutAt Y) → Placed a b → is_passed i a ≡ is_passed i b
  same_passed i a b h = ap (λ (t : Bool). t && not a.jumps) (same_at i a b h) ∙ ap (λ (t : Bool). nat_eq b.at i && not t) h.jumps

  same_met : (i : ℕ) (a : PutAt X) (b : PutAt Y) → Placed a b → is_met i a ≡ is_met i b
  same_met i a b h =
      ap (λ (t : Bool). t && (a.jumps && not a.removed)) (same_at i a b h) ∙ ap (λ (t : Bool). nat_eq b.at i && (t && not a.removed)) h.jumps
      ∙ ap (λ (t : Bool). nat_eq b.at i && (b.jumps && not t)) h.removed

  same_instead : (i : ℕ) (a : PutAt X) (b : PutAt Y) → Placed a b → is_instead i a ≡ is_instead i b
  same_instead i a b h = ap (λ (t : Bool). t && a.removed) (same_at i a b h) ∙ ap (λ (t : Bool). nat_eq b.at i && t) h.removed

  by_test : (s t : Bool) (a : PutAt X) (b : PutAt Y) (o : Option (PutAt X)) (p : Option (PutAt Y)) → s ≡ t → Piece a.piece b.piece
      → IsInstead consts piece_of fragment_of completes goes_on (option_map (λ (put : PutAt X). put.piece) o) (option_map (λ (put : PutAt Y). put.piece) p)
      → IsInstead consts piece_of fragment_of completes goes_on (option_map (λ (put : PutAt X). put.piece) (cond s (Some a) o)) (option_map (λ (put : PutAt Y). put.piece) (cond t (Some b) p))
  by_test true true a b o p e h k = h
  by_test true false a b o p e h k = absurd cc
  by_test false true a b o p e h k = absurd cc
  by_test false false a b o p e h k = k

  put_instead : (i : ℕ) (xs : List (PutAt X)) (ys : List (PutAt Y)) → AllZip Placed xs ys
      → IsInstead consts piece_of fragment_of completes goes_on (option_map (λ (put : PutAt X). put.piece) (find (is_instead i) xs)) (option_map (λ (put : PutAt Y). put.piece) (find (is_instead i) ys))
  put_instead i [] [] h = tt
  put_instead i [] (y ∷ ys) h = absurd h
  put_instead i (x ∷ xs) [] h = absurd h
  put_instead i (x ∷ xs) (y ∷ ys) h =
      by_test (is_instead i x) (is_instead i y) x y (find (is_instead i) xs) (find (is_instead i) ys) (same_instead i x y h.0) h.0.piece (put_instead i xs ys h.1)

  -- those that pass a test alike
  put_by : (p : PutAt X → Bool) (q : PutAt Y → Bool) → ((a : PutAt X) (b : PutAt Y) → Placed a b → p a ≡ q b) → (xs : List (PutAt X)) (ys : List (PutAt Y))
      → AllZip Placed xs ys → AllZip Piece (map (λ (put : PutAt X). put.piece) (filter p xs)) (map (λ (put : PutAt Y). put.piece) (filter q ys))
  put_by p q same xs ys h =
      zip_map Placed Piece (λ (put : PutAt X). put.piece) (λ (put : PutAt Y). put.piece) (λ a b k. k.piece) (filter p xs) (filter q ys) (zip_filter Placed p q same xs ys h)

  -- ---- what is put in the way of entries

  abbrev Met : List Entry → List Handler → PutBefore X Entry → PutBefore Y Handler → Type 0
  Met table handlers = IsMetAs consts piece_of fragment_of completes goes_on table handlers

  put_entries : (table : List Entry) (handlers : List Handler) (i : ℕ) (xs : List (PutBefore X Entry)) (ys : List (PutBefore Y Handler)) → AllZip (Met table handlers) xs ys
      → AllZip Piece (map (λ (put : PutBefore X Entry). put.piece) (filter (leads_to i) xs)) (map (λ (put : PutBefore Y Handler). put.piece) (filter (leads_to i) ys))
  put_entries table handlers i xs ys h =
      zip_map (Met table handlers) Piece (λ (put : PutBefore X Entry). put.piece) (λ (put : PutBefore Y Handler). put.piece) (λ a b k. k.piece) (filter (leads_to i) xs) (filter (leads_to i) ys)
      (zip_filter (Met table handlers) (leads_to i) (leads_to i) (λ a b k. ap (λ (n : ℕ). nat_eq n i) k.target) xs ys h)

  -- what the first entry meets
  meets_first : (e : Entry) (h : Handler) (table : List Entry) (handlers : List Handler) (i j : ℕ) → i ≡ j → (xs : List (PutBefore X Entry)) (ys : List (PutBefore Y Handler))
      → AllZip (Met (e ∷ table) (h ∷ handlers)) xs ys
      → position (λ (put : PutBefore X Entry). put.meets e) (filter (leads_to i) xs) ≡ position (λ (put : PutBefore Y Handler). put.meets h) (filter (leads_to j) ys)
  meets_first e h table handlers i j same xs ys k =
      same_position (λ (put : PutBefore X Entry). put.meets e) (λ (put : PutBefore Y Handler). put.meets h) (filter (leads_to i) xs) (filter (leads_to j) ys)
      (zip_each (Met (e ∷ table) (h ∷ handlers)) (λ (a : PutBefore X Entry) (b : PutBefore Y Handler). a.meets e ≡ b.meets h) (λ a b m. m.meets.0) (filter (leads_to i) xs) (filter (leads_to j) ys)
      (zip_filter (Met (e ∷ table) (h ∷ handlers)) (leads_to i) (leads_to j) (λ a b m. ap (λ (n : ℕ). nat_eq n i) m.target ∙ ap (nat_eq b.target) same) xs ys k))

  meets_rest : (e : Entry) (h : Handler) (table : List Entry) (handlers : List Handler) (a : PutBefore X Entry) (b : PutBefore Y Handler) → Met (e ∷ table) (h ∷ handlers) a b → Met table handlers a b
  meets_rest e h table handlers a b m = record { target = m.target; meets = m.meets.1; piece = m.piece }

  meets_same : (table : List Entry) (handlers : List Handler) → AllZip (IsHandlerOf consts) table handlers → (xs : List (PutBefore X Entry)) (ys : List (PutBefore Y Handler)) → AllZip (Met table handlers) xs ys
      → AllZip (λ (e : Entry) (h : Handler). position (λ (put : PutBefore X Entry). put.meets e) (filter (leads_to e.target) xs) ≡ position (λ (put : PutBefore Y Handler). put.meets h) (filter (leads_to h.target) ys))
      table handlers
  meets_same [] [] is xs ys k = tt
  meets_same [] (h ∷ handlers) is xs ys k = absurd is
  meets_same (e ∷ table) [] is xs ys k = absurd is
  meets_same (e ∷ table) (h ∷ handlers) is xs ys k = (
    meets_first e h table handlers e.target h.target (sym is.0.target) xs ys k,
    meets_same table handlers is.1 xs ys (zip_each (Met (e ∷ table) (h ∷ handlers)) (Met table handlers) (meets_rest e h table handlers) xs ys k),
  )

  pub marks_put : (table : List Entry) (handlers : List Handler) → AllZip (IsHandlerOf consts) table handlers → (places : List (PutAt X)) (fragments : List (PutAt Y)) → AllZip Placed places fragments
      → (entries : List (PutBefore X Entry)) (others : List (PutBefore Y Handler)) → AllZip (Met table handlers) entries others
      → AreMarksOf consts piece_of fragment_of (marks_of (λ (e : Entry). e.target) completes places entries) table (marks_of (λ (h : Handler). h.target) goes_on fragments others) handlers
  marks_put table handlers is places fragments placed entries others met = record {
    entries = λ i. put_entries table handlers i entries others met;
    passed = λ i. put_by (is_passed i) (is_passed i) (same_passed i) places fragments placed;
    met = λ i. put_by (is_met i) (is_met i) (same_met i) places fragments placed;
    instead = λ i. put_instead i places fragments placed;
    entry_of = meets_same table handlers is entries others met;
  }
