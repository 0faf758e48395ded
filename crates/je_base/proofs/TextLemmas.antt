-- What is read a byte at a time is modified UTF-8, and the other way round.
use Rattle.std.proofs.Common.{◌≡◌, ℕ, Bool, true, false, ◌&&◌, nat_le, inl, inr, List, [], ◌∷◌, ◌++◌, length, take, drop, refl, sym, ap, ◌∙◌, ◌↔◌, arith, append_assoc, take-append-drop}
use Rattle.std.specs.List.{flat_map, AllByRecursion, fold}
use Rattle.std.proofs.lemmas.Bool.Decides.{nat_tests}
use Rattle.je_base.specs.Text.{IsSingle, IsContinuation, IsUnit, IsModifiedUtf8}
use Rattle.je_base.specs.Units.{Begins, Follows, SkipsSingles, are_singles}

-- where so many continuations are wanted, these bytes may stand to the end of a text
abbrev pub Completes : ℕ → List ℕ → Type 0
Completes wanted [] = wanted ≡ 0
Completes wanted (b ∷ rest) = (after : ℕ) × Follows wanted b after × Completes after rest

-- so many continuations, and then units
abbrev Splits : ℕ → List ℕ → Type 0
Splits wanted bytes =
    (front : List ℕ) × (rest : List ℕ) × (length front ≡ wanted) × AllByRecursion IsContinuation front × (bytes ≡ front ++ rest) × IsModifiedUtf8 rest

-- a byte and the continuations that it asks for are a unit
IsUnit-begins : (b after : ℕ) (front : List ℕ) → Begins b after → length front ≡ after → AllByRecursion IsContinuation front → IsUnit (b ∷ front)
IsUnit-begins b after [] begins len each = grind arith
IsUnit-begins b after (x ∷ []) begins len each = grind arith
IsUnit-begins b after (x ∷ y ∷ []) begins len each = grind arith
IsUnit-begins b after (x ∷ y ∷ z ∷ r) begins len each = absurd (grind arith)

Splits-completes : (wanted : ℕ) (bytes : List ℕ) → Completes wanted bytes → Splits wanted bytes
Splits-completes wanted [] h = ([], [], sym h, tt, refl, ([], tt, refl))
Splits-completes wanted (b ∷ r) (after, inl begins, more) =
    let tail = Splits-completes after r more in
    let unit = IsUnit-begins b after tail.0 begins.1 tail.2 tail.3 in
    ([], b ∷ r, sym begins.0, tt, refl, ((b ∷ tail.0) ∷ tail.5.0, (unit, tail.5.1), ap (λ s. b ∷ s) (tail.4 ∙ ap (λ s. tail.0 ++ s) tail.5.2)))
Splits-completes wanted (b ∷ r) (after, inr continues, more) =
    let tail = Splits-completes after r more in
    (b ∷ tail.0, tail.1, omega arith, (continues.1, tail.3), ap (λ s. b ∷ s) tail.4, tail.5)

-- with no continuations wanted all of it is units
IsModifiedUtf8-splits : (bytes : List ℕ) → Splits 0 bytes → IsModifiedUtf8 bytes
IsModifiedUtf8-splits bytes ([], rest, len, each, whole, units) = rw whole units
IsModifiedUtf8-splits bytes (x ∷ front, rest, len, each, whole, units) = absurd (omega arith)

-- what may stand from the start of a text to its end is modified UTF-8
pub IsModifiedUtf8-completes : (bytes : List ℕ) → Completes 0 bytes → IsModifiedUtf8 bytes
IsModifiedUtf8-completes bytes h = IsModifiedUtf8-splits bytes (Splits-completes 0 bytes h)

completes_units : (units : List (List ℕ)) → AllByRecursion IsUnit units → Completes 0 (flat_map (λ unit. unit) units)
completes_units [] h = refl
completes_units ([] ∷ units) h = absurd h.0
completes_units ((a ∷ []) ∷ units) h = (0, inl (refl, inl (refl, h.0)), completes_units units h.1)
completes_units ((a ∷ b ∷ []) ∷ units) h =
    (1, inl (refl, inr (inl (refl, h.0.0))), (0, inr (refl, h.0.1), completes_units units h.1))
completes_units ((a ∷ b ∷ c ∷ []) ∷ units) h =
    (2, inl (refl, inr (inr (refl, h.0.0))), (1, inr (refl, h.0.1), (0, inr (refl, h.0.2), completes_units units h.1)))
completes_units ((a ∷ b ∷ c ∷ d ∷ r) ∷ units) h = absurd h.0

-- and the other way round
pub completes-IsModifiedUtf8 : (bytes : List ℕ) → IsModifiedUtf8 bytes → Completes 0 bytes
completes-IsModifiedUtf8 bytes h = rw h.2 (completes_units h.0 h.1)

-- one byte may ask for one number of continuations alone
follows_one : (wanted b m n : ℕ) → Follows wanted b m → Follows wanted b n → m ≡ n
follows_one wanted b m n f g = grind arith

-- a byte that may stand there leads on to the bytes after it
pub completes_after : (wanted b after : ℕ) (rest : List ℕ) → Follows wanted b after → Completes wanted (b ∷ rest) ↔ Completes after rest
completes_after wanted b after rest f =
    (λ h. let e = follows_one wanted b _ _ h.1 f in rw e at h.2, λ h. (after, f, h))

-- after bytes that are units by themselves the rest completes where all of it does
pub completes_singles : (front left : List ℕ) → AllByRecursion IsSingle front → Completes 0 (front ++ left) ↔ Completes 0 left
completes_singles [] left h = (λ x. x, λ x. x)
completes_singles (b ∷ front) left h =
    let one = completes_after 0 b 0 (front ++ left) (inl (refl, inl (refl, h.0))) in
    let more = completes_singles front left h.1 in
    (λ x. more.0 (one.0 x), λ x. one.1 (more.1 x))

-- so what is left after them completes where the whole does
pub completes_skipped : (bytes left : List ℕ) → SkipsSingles bytes left → Completes 0 left ↔ Completes 0 bytes
completes_skipped bytes left (front, each, whole) =
    let all = completes_singles front left each in rw whole (all.1, all.0)

-- one byte that may stand there leads from all bytes to those after it
pub completes_turn : (wanted b after : ℕ) (all left rest : List ℕ) → left ≡ b ∷ rest → Follows wanted b after → Completes wanted left ↔ Completes 0 all → Completes after rest ↔ Completes 0 all
completes_turn wanted b after all left rest split f whole =
    let turn = completes_after wanted b after rest f in
    let whole' : Completes wanted (b ∷ rest) ↔ Completes 0 all = rw split at whole in
    (λ h. whole'.0 (turn.1 h), λ h. turn.0 (whole'.1 h))

-- and to those after further bytes that are units by themselves
pub completes_on : (wanted b after : ℕ) (all left rest later : List ℕ) → left ≡ b ∷ rest → Follows wanted b after → after ≡ 0 → SkipsSingles rest later → Completes wanted left ↔ Completes 0 all → Completes after later ↔ Completes 0 all
completes_on wanted b after all left rest later split f none skips whole =
    let turn = completes_turn wanted b after all left rest split f whole in
    let skipped = completes_skipped rest later skips in
    let turn' : Completes 0 rest ↔ Completes 0 all = rw none at turn in
    rw none (λ h. turn'.0 (skipped.0 h), λ h. skipped.1 (turn'.1 h))

-- at a byte that may not stand there nothing completes
pub completes_stops : (wanted b : ℕ) (left rest : List ℕ) → left ≡ b ∷ rest → ((after : ℕ) → Follows wanted b after → ⊥) → Completes wanted left → ⊥
completes_stops wanted b left rest split none complete = let c = rw split at complete in none c.0 c.1

-- at the end nothing may be wanted
pub completes_end : (wanted : ℕ) (left : List ℕ) → length left ≡ 0 → Completes wanted left ↔ (wanted ≡ 0)
completes_end wanted [] h = (λ x. x, λ x. x)
completes_end wanted (b ∷ rest) h = absurd (omega arith)

single_after : (all : Bool) (b : ℕ) → ((all && nat_le 0x01 b) && nat_le b 0x7f) ≡ true → (all ≡ true) × IsSingle b
single_after true b h = grind (arith, nat_tests)
single_after false b h = absurd (cc)

singles_from : (all : Bool) (bytes : List ℕ) → fold (λ all b. (all && nat_le 0x01 b) && nat_le b 0x7f) all bytes ≡ true → (all ≡ true) × AllByRecursion IsSingle bytes
singles_from all [] h = (h, tt)
singles_from all (b ∷ bytes) h =
    let after = singles_from ((all && nat_le 0x01 b) && nat_le b 0x7f) bytes h in
    let one = single_after all b after.0 in (one.0, (one.1, after.1))

-- where the test holds, each of the bytes is a unit by itself
pub singles_tested : (bytes : List ℕ) → are_singles bytes ≡ true → AllByRecursion IsSingle bytes
singles_tested bytes h = (singles_from true bytes h).1

both_singles : (front block : List ℕ) → AllByRecursion IsSingle front → AllByRecursion IsSingle block → AllByRecursion IsSingle (front ++ block)
both_singles [] block f g = g
both_singles (x ∷ front) block f g = (f.0, both_singles front block f.1 g)

-- what is left after some such bytes and then a block of them
pub skips_more : (n : ℕ) (bytes left block rest : List ℕ) → block ≡ take n left → rest ≡ drop n left → are_singles block ≡ true → SkipsSingles bytes left → SkipsSingles bytes rest
skips_more n bytes left block rest b r tested (front, before, whole) =
    let split : left ≡ block ++ rest = rw (b, r) (sym (take-append-drop n left)) in
    (front ++ block, both_singles front block before (singles_tested block tested), whole ∙ ap (λ l. front ++ l) split ∙ sym (append_assoc front block rest))
