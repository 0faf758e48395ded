-- A text cut into pieces.
use Rattle.std.proofs.Common.{◌≡◌, ℕ, zero, suc, ◌+◌, ◌-◌, ◌<◌, List, [], ◌∷◌, ◌++◌, length, take, drop, refl, sym, ap, ◌∙◌, Some, None, Bool, false, ◌⊎◌, inl, inr, length-append, arith}
use Rattle.std.specs.Prelude.{Result, Ok, Err}
use Rattle.std.specs.Char.{len_utf8}
use Rattle.std.specs.Option.{option_to_list}
use Rattle.std.proofs.lemmas.List.Sums.{sum_by-cons}
use Rattle.je_tokens.specs.declared.pieces.Piece.TheVariants.{Gap, Lexeme}
use Rattle.je_tokens.specs.declared.pieces.Piece.{Piece}
use Rattle.je_tokens.specs.declared.places.Place.{Place}
use Rattle.je_tokens.specs.declared.syntax.Syntax.{Syntax}
use Rattle.je_tokens.specs.declared.syntax.SyntaxKind.{SyntaxKind}
use Rattle.je_tokens.specs.declared.token.Token.{Token}
use Rattle.je_tokens.specs.declared.token.TokenKind.{TokenKind}
use Rattle.je_tokens.specs.Pieces.{piece_at}
use Rattle.je_tokens.specs.Places.{first_place, place_behind, place_after, byte_count}
use Rattle.je_tokens.specs.Reading.{IsWithin}
use Rattle.std.specs.Str.{IsUtf8, chars}
use Rattle.std.proofs.lemmas.Str.{length-encode, encodes-chars}
use lib.Utf8.{encodes, encode}
use Rattle.je_tokens.specs.Tokens.{tokens_of, in_ok, is_minus, token_at, with_piece, tokens_from}

-- ---- bytes

pub offset_after : (place : Place) (text : List ℕ) → (place_after place text).offset ≡ place.offset + byte_count text
offset_after place [] = omega arith
offset_after place (c ∷ text) =
    let rest : (place_after (place_behind place c) text).offset ≡ (place.offset + len_utf8 c) + byte_count text = offset_after (place_behind place c) text in
    let whole = sum_by-cons len_utf8 c text in
    omega (arith, rest, whole)

pub bytes-split : (n : ℕ) (text : List ℕ) → byte_count (take n text) + byte_count (drop n text) ≡ byte_count text
bytes-split zero text = omega arith
bytes-split (suc n) [] = omega arith
bytes-split (suc n) (c ∷ text) =
    let rest = bytes-split n text in
    let whole = sum_by-cons len_utf8 c text in
    let front = sum_by-cons len_utf8 c (take n text) in
    omega (arith, rest, whole, front)

pub fits_behind : (n limit : ℕ) (place : Place) (text : List ℕ) → place.offset + byte_count text < limit
    → (place_after place (take n text)).offset + byte_count (drop n text) < limit
fits_behind n limit place text h =
    let at = offset_after place (take n text) in
    let all = bytes-split n text in
    omega (arith, at, all)

-- ---- the rest of a piece is skipped

skipped : (text : List ℕ) (n : ℕ) (place : Place) (negative : Bool)
    → tokens_from text n place negative ≡ tokens_from (drop n text) 0 (place_after place (take n text)) negative
skipped text zero place negative = refl
skipped [] (suc n) place negative = refl
skipped (c ∷ text) (suc n) place negative = skipped text n (place_behind place c) negative

one_less : (n : ℕ) → suc n - 1 ≡ n
one_less n = omega arith

pub gap_then : (text : List ℕ) (n : ℕ) (place : Place) (negative : Bool) → 0 < n → 0 < length text → piece_at negative text ≡ Ok (Gap n)
    → tokens_from text 0 place negative ≡ tokens_from (drop n text) 0 (place_after place (take n text)) negative
gap_then [] n place negative some long is = absurd (omega arith)
gap_then (c ∷ text) zero place negative some long is = absurd (omega arith)
gap_then (c ∷ text) (suc n) place negative some long is =
    ap (λ (p : Result Piece SyntaxKind). with_piece (c ∷ text) place negative p (λ skipped minus. tokens_from text skipped (place_behind place c) minus)) is
    ∙ ap (λ (k : ℕ). tokens_from text k (place_behind place c) negative) (one_less n)
    ∙ skipped text n (place_behind place c) negative

pub lexeme_then : (text : List ℕ) (n : ℕ) (kind : TokenKind) (place : Place) (negative : Bool) → 0 < n → 0 < length text → piece_at negative text ≡ Ok (Lexeme n kind)
    → tokens_from text 0 place negative
    ≡ in_ok (λ tokens. token_at text place n kind ∷ tokens) (tokens_from (drop n text) 0 (place_after place (take n text)) (is_minus kind))
lexeme_then [] n kind place negative some long is = absurd (omega arith)
lexeme_then (c ∷ text) zero kind place negative some long is = absurd (omega arith)
lexeme_then (c ∷ text) (suc n) kind place negative some long is =
    ap (λ (p : Result Piece SyntaxKind). with_piece (c ∷ text) place negative p (λ skipped minus. tokens_from text skipped (place_behind place c) minus)) is
    ∙ ap (in_ok (λ (tokens : List Token). token_at (c ∷ text) place (suc n) kind ∷ tokens))
    (ap (λ (k : ℕ). tokens_from text k (place_behind place c) (is_minus kind)) (one_less n) ∙ skipped text n (place_behind place c) (is_minus kind))

pub fault_there : (text : List ℕ) (kind : SyntaxKind) (place : Place) (negative : Bool) → 0 < length text → piece_at negative text ≡ Err kind
    → tokens_from text 0 place negative ≡ Err (record { pos = place.pos; kind = kind })
fault_there [] kind place negative long is = absurd (omega arith)
fault_there (c ∷ text) kind place negative long is =
    ap (λ (p : Result Piece SyntaxKind). with_piece (c ∷ text) place negative p (λ skipped minus. tokens_from text skipped (place_behind place c) minus)) is

-- ---- a piece after the other

no_token : (r : Result (List Token) Syntax) → r ≡ in_ok (λ (more : List Token). option_to_list None ++ more) r
no_token (Ok more) = refl
no_token (Err fault) = refl

pub gap_steps : (text after : List ℕ) (n : ℕ) (place behind : Place) (negative minus : Bool) → IsWithin n text → piece_at negative text ≡ Ok (Gap n)
    → after ≡ drop n text → behind ≡ place_after place (take n text) → minus ≡ negative
    → tokens_from text 0 place negative ≡ in_ok (λ (more : List Token). option_to_list None ++ more) (tokens_from after 0 behind minus)
gap_steps text after n place behind negative minus within is dropped moved same =
    let e : tokens_from (drop n text) 0 (place_after place (take n text)) negative ≡ tokens_from after 0 behind minus = rw (dropped, moved, same) refl in
    gap_then text n place negative within.0 (omega (arith, within.0, within.1)) is ∙ e ∙ no_token (tokens_from after 0 behind minus)

pub lexeme_steps : (text after : List ℕ) (n : ℕ) (kind : TokenKind) (place behind : Place) (negative minus : Bool) (token : Token) → IsWithin n text
    → piece_at negative text ≡ Ok (Lexeme n kind) → after ≡ drop n text → behind ≡ place_after place (take n text) → minus ≡ is_minus kind → token ≡ token_at text place n kind
    → tokens_from text 0 place negative ≡ in_ok (λ (more : List Token). option_to_list (Some token) ++ more) (tokens_from after 0 behind minus)
lexeme_steps text after n kind place behind negative minus token within is dropped moved same made =
    let e : in_ok (λ (more : List Token). token_at text place n kind ∷ more) (tokens_from (drop n text) 0 (place_after place (take n text)) (is_minus kind))
    ≡ in_ok (λ (more : List Token). option_to_list (Some token) ++ more) (tokens_from after 0 behind minus) = rw (dropped, moved, same, made) refl in
    lexeme_then text n kind place negative within.0 (omega (arith, within.0, within.1)) is ∙ e

pub fault_steps : {A : Type 0} (text : List ℕ) (kind : SyntaxKind) (place : Place) (negative : Bool) → 0 < length text → A ⊎ (piece_at negative text ≡ Err kind)
    → A ⊎ (tokens_from text 0 place negative ≡ Err (record { pos = place.pos; kind = kind }))
fault_steps text kind place negative long (inl memory) = inl memory
fault_steps text kind place negative long (inr is) = inr (fault_there text kind place negative long is)

-- ---- the whole text

bytes_of : (characters : List ℕ) → length (encodes characters) ≡ byte_count characters
bytes_of [] = refl
bytes_of (c ∷ characters) =
    let rest = bytes_of characters in
    let whole = sum_by-cons len_utf8 c characters in
    let first = length-encode c in
    let both = length-append (encode c) (encodes characters) in
    omega (arith, rest, whole, first, both)

pub byte_count-chars : (text : List ℕ) → IsUtf8 text → byte_count (chars text) ≡ length text
byte_count-chars text utf8 = sym (bytes_of (chars text)) ∙ ap length (encodes-chars text utf8)

all_there : (r : Result (List Token) Syntax) → r ≡ in_ok (λ (more : List Token). [] ++ more) r
all_there (Ok more) = refl
all_there (Err fault) = refl

pub begun : (text found : List ℕ) (tokens : List Token) (place : Place) → found ≡ text → tokens ≡ [] → place ≡ first_place
    → tokens_of text ≡ in_ok (λ (more : List Token). tokens ++ more) (tokens_from found 0 place false)
unfolding tokens_of
begun text found tokens place same none first = rw (same, none, first) (all_there (tokens_from text 0 first_place false))

pub begun_fits : (found characters : List ℕ) (place : Place) (limit : ℕ) → found ≡ characters → place ≡ first_place → byte_count characters < limit
    → place.offset + byte_count found < limit
begun_fits found characters place limit same first h = rw (same, first) (let e : 0 + byte_count characters ≡ byte_count characters = omega arith in omega (arith, e, h))

pub characters_fit : (text characters : List ℕ) (limit : ℕ) → IsUtf8 text → characters ≡ chars text → length text < limit → byte_count characters < limit
characters_fit text characters limit utf8 same h = rw same (let e = byte_count-chars text utf8 in omega (arith, e, h))
