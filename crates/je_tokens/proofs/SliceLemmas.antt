-- Tokens are slices of their text.
use Rattle.std.proofs.Common.{◌≡◌, ℕ, zero, suc, ◌+◌, ◌-◌, List, [], ◌∷◌, ◌++◌, take, drop, refl, sym, ap, subst, ◌∙◌, length, take-append-drop, append_assoc, append-nil, Bool, false, arith}
use Rattle.std.specs.Prelude.{Result, Ok, Err}
use Rattle.std.specs.List.{fold}
use Rattle.std.proofs.lemmas.List.Sums.{fold-append}
use Rattle.je_tokens.specs.declared.pieces.Piece.{Piece}
use Rattle.je_tokens.specs.declared.pieces.Piece.TheVariants.{Gap, Lexeme}
use Rattle.je_tokens.specs.declared.places.Place.{Place}
use Rattle.je_tokens.specs.declared.syntax.Syntax.{Syntax}
use Rattle.je_tokens.specs.declared.syntax.SyntaxKind.{SyntaxKind}
use Rattle.je_tokens.specs.declared.token.Token.{Token}
use Rattle.je_tokens.specs.declared.token.TokenKind.{TokenKind}
use Rattle.je_tokens.specs.Pieces.{piece_at}
use Rattle.je_tokens.specs.Places.{first_place, pos_behind, place_behind, place_after, byte_count}
use Rattle.je_tokens.specs.Slices.{IsSlice, AreSlices}
use Rattle.je_tokens.specs.Tokens.{tokens_of, in_ok, is_minus, token_at, with_piece, tokens_from}
use Rattle.je_tokens.proofs.CutLemmas.{offset_after}

after_append : (place : Place) (a b : List ℕ) → place_after place (a ++ b) ≡ place_after (place_after place a) b
after_append place a b = fold-append place_behind place a b

pos_from : (place : Place) (text : List ℕ) → (place_after place text).pos ≡ fold pos_behind place.pos text
pos_from place [] = refl
pos_from place (c ∷ text) = pos_from (place_behind place c) text

at_front : (front : List ℕ) → (place_after first_place front).offset ≡ byte_count front
at_front front = let e = offset_after first_place front in let zero_more : 0 + byte_count front ≡ byte_count front = omega arith in e ∙ zero_more

slice_at : (front rest : List ℕ) (n : ℕ) (kind : TokenKind) → IsSlice (front ++ rest) (token_at rest (place_after first_place front) n kind)
slice_at front rest n kind = record {
  front = front;
  lexeme = take n rest;
  rest = drop n rest;
  whole = ap (λ (s : List ℕ). front ++ s) (sym (take-append-drop n rest));
  begins = at_front front;
  ends = ap (λ (p : Place). p.offset) (sym (after_append first_place front (take n rest))) ∙ at_front (front ++ take n rest);
  there = pos_from first_place front;
}

-- what is found behind a token that is put before it
put : (text : List ℕ) (token : Token) (r : Result (List Token) Syntax) (tokens : List Token) → IsSlice text token → ((later : List Token) → r ≡ Ok later → AreSlices text later)
    → in_ok (λ (more : List Token). token ∷ more) r ≡ Ok tokens → AreSlices text tokens
put text token (Ok later) tokens first each is = let e : token ∷ later ≡ tokens = cc in subst (AreSlices text) e (first, each later refl)
put text token (Err fault) tokens first each is = absurd cc

pieces : (front rest : List ℕ) (c : ℕ) (negative : Bool) (p : Result Piece SyntaxKind) (tokens : List Token)
    → ((k : ℕ) (minus : Bool) (later : List Token) → tokens_from rest k (place_behind (place_after first_place front) c) minus ≡ Ok later → AreSlices (front ++ c ∷ rest) later)
    → with_piece (c ∷ rest) (place_after first_place front) negative p (λ skipped minus. tokens_from rest skipped (place_behind (place_after first_place front) c) minus) ≡ Ok tokens
    → AreSlices (front ++ c ∷ rest) tokens
pieces front rest c negative (Err kind) tokens later is = absurd cc
pieces front rest c negative (Ok (Gap n)) tokens later is = later (n - 1) negative tokens is
pieces front rest c negative (Ok (Lexeme n kind)) tokens later is =
    put (front ++ c ∷ rest) (token_at (c ∷ rest) (place_after first_place front) n kind) (tokens_from rest (n - 1) (place_behind (place_after first_place front) c) (is_minus kind)) tokens
    (slice_at front (c ∷ rest) n kind) (λ more is_more. later (n - 1) (is_minus kind) more is_more) is

sliced : (rest front : List ℕ) (k : ℕ) (negative : Bool) (tokens : List Token) → tokens_from rest k (place_after first_place front) negative ≡ Ok tokens → AreSlices (front ++ rest) tokens
sliced [] front k negative [] is = tt
sliced [] front k negative (t ∷ tokens) is = absurd cc
sliced (c ∷ rest) front zero negative tokens is =
    pieces front rest c negative (piece_at negative (c ∷ rest)) tokens
    (λ k minus later is_later.
    subst (λ (s : List ℕ). AreSlices s later) (append_assoc front (c ∷ []) rest)
    (sliced rest (front ++ c ∷ []) k minus later (ap (λ (p : Place). tokens_from rest k p minus) (after_append first_place front (c ∷ [])) ∙ is_later)))
    is
sliced (c ∷ rest) front (suc k) negative tokens is =
    subst (λ (s : List ℕ). AreSlices s tokens) (append_assoc front (c ∷ []) rest)
    (sliced rest (front ++ c ∷ []) k negative tokens (ap (λ (p : Place). tokens_from rest k p negative) (after_append first_place front (c ∷ [])) ∙ is))

pub AreSlices-tokens : (text : List ℕ) (tokens : List Token) → tokens_of text ≡ Ok tokens → AreSlices text tokens
unfolding tokens_of
AreSlices-tokens text tokens is = sliced text [] 0 false tokens is

-- where nothing is left the tokens found are all
pub ended : (whole : Result (List Token) Syntax) (found : List Token) (text : List ℕ) (place : Place) (negative : Bool) → whole ≡ in_ok (λ (more : List Token). found ++ more) (tokens_from text 0 place negative)
    → length text ≡ 0 → whole ≡ Ok found
ended whole found [] place negative is none = is ∙ ap Ok (append-nil found)
ended whole found (c ∷ text) place negative is none = absurd (omega arith)
