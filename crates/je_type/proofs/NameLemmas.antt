-- The name of a class, up to the first `;`.
use Rattle.std.proofs.Common.{◌≡◌, ◌≢◌, ℕ, ◌+◌, ◌-◌, ◌<◌, List, [], ◌∷◌, ◌++◌, length, take, drop, Some, false, refl, ap, ◌∙◌, arith, length-append}
use Rattle.std.specs.Prelude.{◌==◌}
use Rattle.std.specs.List.{position, position_or_len, AllByRecursion}
use Rattle.std.proofs.lemmas.Bool.{lt-ltb}
use Rattle.std.proofs.lemmas.Bool.Decides.{nat_tests}
use Rattle.std.proofs.lemmas.List.Elements.{recursion_from_All}
use Rattle.std.proofs.lemmas.List.{take_rest}
use Rattle.std.proofs.Math.Seq.{take-append_seam, drop-append-add}
use Rattle.je_desc.specs.Names.{IsNameByte, IsClassName}

no_end : (b : ℕ) → b ≢ 59 → (b == 59) ≡ false
no_end b h = grind (arith, nat_tests)

name_length : (name rest : List ℕ) → AllByRecursion IsNameByte name
    → position_or_len (λ byte. byte == 59) (name ++ 59 ∷ rest) ≡ length name
name_length [] rest each = refl
name_length (b ∷ name) rest each =
    rw (no_end b each.0.1, name_length name rest each.1) (omega arith)

ends : (name rest : List ℕ) → IsClassName name
    → position (λ byte. byte == 59) (name ++ 59 ∷ rest) ≡ Some (length name)
ends name rest named =
    let each = recursion_from_All IsNameByte name named.1 in
    let lt : length name < length (name ++ 59 ∷ rest) = simp length-append (omega arith) in
    rw (name_length name rest each, lt-ltb _ _ lt) refl

module _ (name x bytes : List ℕ) (named : IsClassName name) (whole : bytes ≡ name ++ 59 ∷ x) where
  pub end_is : position (λ byte. byte == 59) bytes ≡ Some (length name)
  end_is = ap (position (λ byte. byte == 59)) whole ∙ ends name x named

  -- what was read up to the first `;`, and what comes after it
  pub name_read : (end : ℕ) (got : List ℕ) → position (λ byte. byte == 59) bytes ≡ Some end → got ≡ take end bytes
      → (got ≡ name) × (take (length bytes - (end + 1)) (drop (end + 1) bytes) ≡ x)
  name_read end got at is =
      let same : end ≡ length name = cc (end_is) in
      let before : take end bytes ≡ name =
      ap (λ n. take n bytes) same ∙ ap (take (length name)) whole ∙ take-append_seam name (59 ∷ x) in
      let behind : drop (end + 1) bytes ≡ x =
      ap (λ n. drop (n + 1) bytes) same ∙ ap (drop (length name + 1)) whole ∙ drop-append-add name (59 ∷ x) 1 in
      (is ∙ before, rw take_rest behind)
