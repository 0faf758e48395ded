-- Where a throw goes.
use Rattle.std.proofs.Common.{◌≡◌, ℕ, List, [], ◌∷◌, ◌++◌, Option, Some, None, Bool, true, false, ◌&&◌, refl, sym, ap, ◌∙◌}
use Rattle.std.specs.Prelude.{cond, filter, option_map}
use Rattle.std.specs.Option.{option_or}
use Rattle.std.specs.List.{find}
use Rattle.je_machine.specs.Value.{Value}
use Rattle.je_machine.specs.Heap.{Heap}
use Rattle.je_machine.specs.Classes.{Classes}
use Rattle.je_machine.specs.Operation.{Handler}
use Rattle.je_machine.specs.Machine.{catcher, covers, catches, is_handler_of}

-- the first that passes both tests, of those that pass the first
first_of_filtered : {A : Type 0} (p q : A → Bool) (x : A) (b : Bool) (rest rest' : Option A) (kept : List A) → rest ≡ find q kept
    → cond (b && q x) (Some x) rest ≡ find q (cond b (x ∷ kept) kept)
first_of_filtered p q x true rest rest' kept e = ap (cond (q x) (Some x)) e
first_of_filtered p q x false rest rest' kept e = e

find_filtered : {A : Type 0} (p q : A → Bool) (xs : List A) → find (λ x. p x && q x) xs ≡ find q (filter p xs)
find_filtered p q [] = refl
find_filtered p q (x ∷ xs) =
    first_of_filtered p q x (p x) (find (λ y. p y && q y) xs) None (filter p xs) (find_filtered p q xs)

pub catcher_covers : (hs : List Handler) (classes : Classes) (place : ℕ) (heap : Heap) (v : Value)
    → catcher hs classes place heap v
    ≡ option_map (λ h. h.target) (find (λ h. catches classes heap v h.catch_class) (filter (covers place) hs))
catcher_covers hs classes place heap v =
    ap (option_map (λ (h : Handler). h.target)) (find_filtered (covers place) (λ h. catches classes heap v h.catch_class) hs)

pub catcher_same : (hs gs : List Handler) (classes : Classes) (place at : ℕ) → filter (covers place) hs ≡ filter (covers at) gs
    → (heap : Heap) (v : Value) → catcher hs classes place heap v ≡ catcher gs classes at heap v
catcher_same hs gs classes place at e heap v =
    catcher_covers hs classes place heap v
    ∙ ap (λ l. option_map (λ (h : Handler). h.target) (find (λ h. catches classes heap v h.catch_class) l)) e
    ∙ sym (catcher_covers gs classes at heap v)

first_or : (b : Bool) (h : Handler) (rest found : Option Handler) (other : Option ℕ)
    → option_map (λ (g : Handler). g.target) rest ≡ option_or (option_map (λ (g : Handler). g.target) found) other
    → option_map (λ (g : Handler). g.target) (cond b (Some h) rest) ≡ option_or (option_map (λ (g : Handler). g.target) (cond b (Some h) found)) other
first_or true h rest found other e = refl
first_or false h rest found other e = e

pub catcher_joined : (hs gs : List Handler) (classes : Classes) (place : ℕ) (heap : Heap) (v : Value)
    → catcher (hs ++ gs) classes place heap v ≡ option_or (catcher hs classes place heap v) (catcher gs classes place heap v)
catcher_joined [] gs classes place heap v = refl
catcher_joined (h ∷ hs) gs classes place heap v =
    first_or (is_handler_of classes heap v place h) h (find (is_handler_of classes heap v place) (hs ++ gs)) (find (is_handler_of classes heap v place) hs)
    (catcher gs classes place heap v) (catcher_joined hs gs classes place heap v)
