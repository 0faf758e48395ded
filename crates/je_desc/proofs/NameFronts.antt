-- A class name ends where the first `;` stands.
use Rattle.std.proofs.Common.{◌≡◌, ◌≢◌, ℕ, ◌+◌, ◌<◌, false, Option, Some, List, [], ◌∷◌, ◌++◌, length, get_or, take, drop, refl, sym, ap, ◌∙◌, arith, length-append}
use Rattle.std.specs.Prelude.{◌==◌}
use Rattle.std.specs.List.{position, position_or_len, AllByRecursion}
use Rattle.std.proofs.lemmas.Bool.{eqb-true, lt-ltb}
use Rattle.std.proofs.lemmas.Bool.Decides.{nat_tests}
use Rattle.std.proofs.lemmas.List.Elements.{recursion_from_All}
use Rattle.std.proofs.lemmas.List.Quantifiers.{position-Some}
use Rattle.std.proofs.lemmas.List.{take-append-drop, drop_more}
use Rattle.std.proofs.Math.Seq.{take-append_seam, drop-append-add}
use Rattle.je_desc.specs.Names.{IsNameByte, IsClassName}
use Rattle.je_desc.specs.Front.{NameFront}

-- where the first `;` stands
abbrev pub end_of : List ℕ → Option ℕ
end_of bytes = position (λ byte. byte == 59) bytes

-- a list, split at a place of it
pub split_at : (bytes : List ℕ) (i : ℕ) → i < length bytes → bytes ≡ take i bytes ++ get_or bytes i 0 ∷ drop (i + 1) bytes
split_at bytes i h = sym (take-append-drop i bytes) ∙ ap (λ s. take i bytes ++ s) (drop_more bytes i 0 h)

no_end : (b : ℕ) → b ≢ 59 → (b == 59) ≡ false
no_end b h = grind (arith, nat_tests)

name_length : (name rest : List ℕ) → AllByRecursion IsNameByte name → position_or_len (λ byte. byte == 59) (name ++ 59 ∷ rest) ≡ length name
name_length [] rest each = refl
name_length (b ∷ name) rest each = rw (no_end b each.0.1, name_length name rest each.1) (omega arith)

pub end_of-name : (bytes rest : List ℕ) (front : NameFront bytes rest) → end_of bytes ≡ Some (length front.name)
end_of-name bytes rest front =
    let each = recursion_from_All IsNameByte front.name front.is_name.1 in
    let lt : length front.name < length (front.name ++ 59 ∷ rest) = simp length-append (omega arith) in
    rw (front.whole, name_length front.name rest each, lt-ltb _ _ lt) refl

pub end_is : (bytes : List ℕ) (i : ℕ) → end_of bytes ≡ Some i → (i < length bytes) × (get_or bytes i 0 ≡ 59)
end_is bytes i e =
    let found = position-Some (λ byte. byte == 59) bytes i 0 e in
    (found.0, eqb-true _ _ found.1)

-- with a name before that place, this is what comes after
pub NameFront-end : (bytes : List ℕ) (i : ℕ) → end_of bytes ≡ Some i → IsClassName (take i bytes) → NameFront bytes (drop (i + 1) bytes)
NameFront-end bytes i e named =
    let is = end_is bytes i e in
    record { name = take i bytes; is_name = named; whole = rw is.1 at (split_at bytes i is.0) }

-- and the other way round
pub end-NameFront : (bytes rest : List ℕ) (i : ℕ) → end_of bytes ≡ Some i → NameFront bytes rest → IsClassName (take i bytes) × (drop (i + 1) bytes ≡ rest)
end-NameFront bytes rest i e front =
    let same : i ≡ length front.name = cc (end_of-name bytes rest front) in
    let taken : take i bytes ≡ front.name = rw (same, front.whole) (take-append_seam front.name (59 ∷ rest)) in
    let dropped : drop (i + 1) bytes ≡ rest = rw (same, front.whole) (drop-append-add front.name (59 ∷ rest) 1) in
    (rw taken front.is_name, dropped)
