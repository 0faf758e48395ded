-- What is put at each index.
use Rattle.std.proofs.Common.{◌≡◌, ℕ, zero, suc, ◌<◌, ◌≤◌, get_or, List, [], ◌∷◌, ◌++◌, length, map, filter, refl, sym, ap, ◌∙◌, arith, append_assoc}
use Rattle.std.specs.Prelude.{Bool, true, false, cond, not, ◌&&◌, nat_eq, find, Option, Some, None, option_map, slice_get, slice_set}
use Rattle.std.specs.Option.{option_or}
use Rattle.std.proofs.lemmas.List.{append-nil}
use Rattle.std.proofs.lemmas.Bool.{eqb-true, eq-eqb}
use Rattle.std.proofs.lemmas.Option.{slice_get_past, slice_get-get_or}
use Rattle.je_instr.specs.declared.program.Handler.{Handler}
use Rattle.je_splice.specs.Put.{PutBefore, is_passed, is_met, is_instead, leads_to}
use Rattle.je_put.specs.declared.block.Block.{Block}
use Rattle.je_put.specs.declared.block.EntryBlock.{EntryBlock}
use Rattle.je_put.specs.declared.block.PlaceBlock.{PlaceBlock}
use Rattle.je_put.specs.declared.parts.Parts.{Parts}
use Rattle.je_put.specs.Placing.{put_at, put_before}
use Rattle.je_put.specs.Parts.{Here, here_of, nothing_here, with_place, with_entry, with_places, with_entries, HasParts, RowsBecome}

-- ---- records

abbrev here : List (PutBefore Block Handler) → List Block → List Block → Option Block → Here
here entries passed met instead = record { entries = entries; passed = passed; met = met; instead = instead }

same_here : {e e' : List (PutBefore Block Handler)} {p p' m m' : List Block} {o o' : Option Block}
    → e ≡ e' → p ≡ p' → m ≡ m' → o ≡ o' → here e p m o ≡ here e' p' m' o'
same_here {e = e} {e' = e'} {p = p} {p' = p'} {m = m} {m' = m'} {o = o} {o' = o'} es ps ms os =
    ap (λ (x : List (PutBefore Block Handler)). here x p m o) es ∙ ap (λ (x : List Block). here e' x m o) ps
    ∙ ap (λ (x : List Block). here e' p' x o) ms ∙ ap (λ (x : Option Block). here e' p' m' x) os

-- ---- one more of a list

append_step : {A B : Type 0} (f : A → B) (old : List B) (t : Bool) (x : A) (xs : List A)
    → old ++ map f (cond t (x ∷ xs) xs) ≡ (old ++ cond t (f x ∷ []) []) ++ map f xs
append_step f old true x xs = sym (append_assoc old (f x ∷ []) (map f xs))
append_step f old false x xs = ap (λ l. l ++ map f xs) (sym (append-nil old))

instead_step : {A B : Type 0} (f : A → B) (old : Option B) (t : Bool) (x : A) (xs : Option A)
    → option_or old (option_map f (cond t (Some x) xs)) ≡ option_or (option_or old (cond t (Some (f x)) None)) (option_map f xs)
instead_step f (Some y) t x xs = refl
instead_step f None true x xs = refl
instead_step f None false x xs = refl

or_none : {B : Type 0} (old : Option B) → option_or old None ≡ old
or_none (Some y) = refl
or_none None = refl

-- the place stands at the index, or not
abbrev placed_by : Bool → PlaceBlock → Here → Here
placed_by t p h = here h.entries (h.passed ++ cond (t && not p.jumps) (p.block ∷ []) [])
    (h.met ++ cond (t && (p.jumps && not p.removed)) (p.block ∷ []) [])
    (option_or h.instead (cond (t && p.removed) (Some p.block) None))

places_step : (i : ℕ) (p : PlaceBlock) (rest : List PlaceBlock) (h : Here)
    → with_places i (p ∷ rest) h ≡ with_places i rest (placed_by (nat_eq p.at i) p h)
places_step i p rest h =
    same_here refl
    (append_step (λ put. put.piece) h.passed (is_passed i (put_at p)) (put_at p) (filter (is_passed i) (map put_at rest)))
    (append_step (λ put. put.piece) h.met (is_met i (put_at p)) (put_at p) (filter (is_met i) (map put_at rest)))
    (instead_step (λ put. put.piece) h.instead (is_instead i (put_at p)) (put_at p) (find (is_instead i) (map put_at rest)))

placed_elsewhere : (p : PlaceBlock) (h : Here) → placed_by false p h ≡ h
placed_elsewhere p h = same_here refl (append-nil h.passed) (append-nil h.met) (or_none h.instead)

-- the entry stands at the index, or not
abbrev entered_by : Bool → EntryBlock → Here → Here
entered_by t e h = here (h.entries ++ cond t (put_before e ∷ []) []) h.passed h.met h.instead

keep_step : {A : Type 0} (old : List A) (t : Bool) (x : A) (xs : List A) → old ++ cond t (x ∷ xs) xs ≡ (old ++ cond t (x ∷ []) []) ++ xs
keep_step old true x xs = sym (append_assoc old (x ∷ []) xs)
keep_step old false x xs = ap (λ l. l ++ xs) (sym (append-nil old))

entries_step : (i : ℕ) (e : EntryBlock) (rest : List EntryBlock) (h : Here)
    → with_entries i (e ∷ rest) h ≡ with_entries i rest (entered_by (nat_eq e.target i) e h)
entries_step i e rest h =
    same_here (keep_step h.entries (nat_eq e.target i) (put_before e) (filter (leads_to i) (map put_before rest))) refl refl refl

entered_elsewhere : (e : EntryBlock) (h : Here) → entered_by false e h ≡ h
entered_elsewhere e h = same_here (append-nil h.entries) refl refl refl

-- ---- rows of the table

get_set_same : {A : Type 0} (xs : List A) (k : ℕ) (v : A) → k < length xs → slice_get (slice_set xs k v) k ≡ Some v
get_set_same [] k v within = absurd (omega (arith, within))
get_set_same (x ∷ xs) zero v within = refl
get_set_same (x ∷ xs) (suc k) v within = get_set_same xs k v (omega (arith, within))

get_set_other : {A : Type 0} (xs : List A) (k i : ℕ) (v : A) → (k ≡ i → ⊥) → slice_get (slice_set xs k v) i ≡ slice_get xs i
get_set_other [] k i v apart = refl
get_set_other (x ∷ xs) zero zero v apart = absurd (apart refl)
get_set_other (x ∷ xs) zero (suc i) v apart = refl
get_set_other (x ∷ xs) (suc k) zero v apart = refl
get_set_other (x ∷ xs) (suc k) (suc i) v apart = get_set_other xs k i v (λ e. apart (ap suc e))

map_agrees : {A B : Type 0} (f g : A → B) (o : Option A) → ((x : A) → f x ≡ g x) → option_map f o ≡ option_map g o
map_agrees f g None same = refl
map_agrees f g (Some x) same = ap Some (same x)

module _ (f g : ℕ → Here → Here) (stepped : Bool → Here → Here) (at : ℕ)
    (step : (i : ℕ) (h : Here) → g i h ≡ f i (stepped (nat_eq at i) h)) (other : (h : Here) → stepped false h ≡ h) where
  unchanged : (i : ℕ) → nat_eq at i ≡ false → (h : Here) → f i h ≡ g i h
  unchanged i e h = sym (step i h ∙ ap (λ t. f i (stepped t h)) e ∙ ap (f i) (other h))

  apart_by : (i : ℕ) → nat_eq at i ≡ false → at ≡ i → ⊥
  apart_by i e same = let t : nat_eq at i ≡ true = eq-eqb at i same in cc

  pub rows_step : (table : List Parts) (row row' : Parts) → at < length table → slice_get table at ≡ Some row
      → here_of row' ≡ stepped true (here_of row) → (i : ℕ)
      → option_map (λ parts. f i (here_of parts)) (slice_get (slice_set table at row') i)
      ≡ option_map (λ parts. g i (here_of parts)) (slice_get table i)
  rows_step table row row' within there made i = by_test (nat_eq at i) refl where
    by_test : (t : Bool) → nat_eq at i ≡ t
        → option_map (λ parts. f i (here_of parts)) (slice_get (slice_set table at row') i)
        ≡ option_map (λ parts. g i (here_of parts)) (slice_get table i)
    by_test true e =
        let same : i ≡ at = sym (eqb-true at i e) in
        let new = ap (slice_get (slice_set table at row')) same ∙ get_set_same table at row' within in
        let old = ap (slice_get table) same ∙ there in
        ap (option_map (λ (parts : Parts). f i (here_of parts))) new
        ∙ ap (λ h. Some (f i h)) made
        ∙ ap Some (sym (step i (here_of row) ∙ ap (λ t. f i (stepped t (here_of row))) e))
        ∙ sym (ap (option_map (λ (parts : Parts). g i (here_of parts))) old)
    by_test false e =
        ap (option_map (λ (parts : Parts). f i (here_of parts))) (get_set_other table at i row' (apart_by i e))
        ∙ map_agrees (λ parts. f i (here_of parts)) (λ parts. g i (here_of parts)) (slice_get table i) (λ parts. unchanged i e (here_of parts))

  pub rows_past : (table : List Parts) → length table ≤ at → (i : ℕ)
      → option_map (λ parts. f i (here_of parts)) (slice_get table i)
      ≡ option_map (λ parts. g i (here_of parts)) (slice_get table i)
  rows_past table past i = by_test (nat_eq at i) refl where
    by_test : (t : Bool) → nat_eq at i ≡ t
        → option_map (λ parts. f i (here_of parts)) (slice_get table i)
        ≡ option_map (λ parts. g i (here_of parts)) (slice_get table i)
    by_test true e =
        let none : slice_get table i ≡ None = slice_get_past table i (omega (arith, past, eqb-true at i e)) in
        ap (option_map (λ (parts : Parts). f i (here_of parts))) none ∙ sym (ap (option_map (λ (parts : Parts). g i (here_of parts))) none)
    by_test false e = map_agrees (λ parts. f i (here_of parts)) (λ parts. g i (here_of parts)) (slice_get table i) (λ parts. unchanged i e (here_of parts))

-- ---- the loops' steps

pub places_more : (rest tail : List PlaceBlock) (p : PlaceBlock) (table : List Parts) (row row' : Parts) → rest ≡ p ∷ tail → p.at < length table
    → row ≡ get_or table p.at row → here_of row' ≡ with_place p (here_of row) → (i : ℕ)
    → option_map (λ parts. with_places i tail (here_of parts)) (slice_get (slice_set table p.at row') i)
    ≡ option_map (λ parts. with_places i rest (here_of parts)) (slice_get table i)
places_more rest tail p table row row' is within there made i =
    rows_step (λ i. with_places i tail) (λ i. with_places i (p ∷ tail)) (λ t. placed_by t p) p.at (λ i h. places_step i p tail h) (placed_elsewhere p)
    table row row' within (slice_get-get_or table p.at row within ∙ ap Some (sym there)) made i
    ∙ ap (λ (l : List PlaceBlock). option_map (λ (parts : Parts). with_places i l (here_of parts)) (slice_get table i)) (sym is)

pub places_past : (rest tail : List PlaceBlock) (p : PlaceBlock) (table : List Parts) → rest ≡ p ∷ tail → length table ≤ p.at → (i : ℕ)
    → option_map (λ parts. with_places i tail (here_of parts)) (slice_get table i)
    ≡ option_map (λ parts. with_places i rest (here_of parts)) (slice_get table i)
places_past rest tail p table is past i =
    rows_past (λ i. with_places i tail) (λ i. with_places i (p ∷ tail)) (λ t. placed_by t p) p.at (λ i h. places_step i p tail h) (placed_elsewhere p) table past i
    ∙ ap (λ (l : List PlaceBlock). option_map (λ (parts : Parts). with_places i l (here_of parts)) (slice_get table i)) (sym is)

pub entries_more : (rest tail : List EntryBlock) (e : EntryBlock) (table : List Parts) (row row' : Parts) → rest ≡ e ∷ tail → e.target < length table
    → row ≡ get_or table e.target row → here_of row' ≡ with_entry e (here_of row) → (i : ℕ)
    → option_map (λ parts. with_entries i tail (here_of parts)) (slice_get (slice_set table e.target row') i)
    ≡ option_map (λ parts. with_entries i rest (here_of parts)) (slice_get table i)
entries_more rest tail e table row row' is within there made i =
    rows_step (λ i. with_entries i tail) (λ i. with_entries i (e ∷ tail)) (λ t. entered_by t e) e.target (λ i h. entries_step i e tail h) (entered_elsewhere e)
    table row row' within (slice_get-get_or table e.target row within ∙ ap Some (sym there)) made i
    ∙ ap (λ (l : List EntryBlock). option_map (λ (parts : Parts). with_entries i l (here_of parts)) (slice_get table i)) (sym is)

pub entries_past : (rest tail : List EntryBlock) (e : EntryBlock) (table : List Parts) → rest ≡ e ∷ tail → length table ≤ e.target → (i : ℕ)
    → option_map (λ parts. with_entries i tail (here_of parts)) (slice_get table i)
    ≡ option_map (λ parts. with_entries i rest (here_of parts)) (slice_get table i)
entries_past rest tail e table is past i =
    rows_past (λ i. with_entries i tail) (λ i. with_entries i (e ∷ tail)) (λ t. entered_by t e) e.target (λ i h. entries_step i e tail h) (entered_elsewhere e) table past i
    ∙ ap (λ (l : List EntryBlock). option_map (λ (parts : Parts). with_entries i l (here_of parts)) (slice_get table i)) (sym is)

-- ---- the table

pub length_set : {A : Type 0} (xs : List A) (k : ℕ) (v : A) → length (slice_set xs k v) ≡ length xs
length_set [] k v = refl
length_set (x ∷ xs) zero v = refl
length_set (x ∷ xs) (suc k) v = ap suc (length_set xs k v)

map_through : {A B C : Type 0} (f : A → B) (g : B → C) (o : Option A) → option_map (λ x. g (f x)) o ≡ option_map g (option_map f o)
map_through f g None = refl
map_through f g (Some x) = refl

pub parts_joined : (places : List PlaceBlock) (entries : List EntryBlock) (count : ℕ) (t0 t1 t2 : List Parts) → HasParts [] [] count t0
    → RowsBecome (λ i h. h) (λ i. with_places i places) t0 t1 → length t1 ≡ length t0
    → RowsBecome (λ i h. h) (λ i. with_entries i entries) t1 t2 → length t2 ≡ length t1
    → HasParts places entries count t2
parts_joined places entries count t0 t1 t2 empty placed long1 entered long2 = record {
  each = λ i within.
      let first : option_map here_of (slice_get t1 i) ≡ Some (with_places i places nothing_here) =
      placed i ∙ map_through here_of (with_places i places) (slice_get t0 i) ∙ ap (option_map (with_places i places)) (empty.each i within) in
      entered i ∙ map_through here_of (with_entries i entries) (slice_get t1 i) ∙ ap (option_map (with_entries i entries)) first;
  long = long2 ∙ long1 ∙ empty.long;
}
