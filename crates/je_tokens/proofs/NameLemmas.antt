-- The table of reserved words.
use Rattle.std.proofs.Common.{◌≡◌, ℕ, Bool, List, [], ◌∷◌, map, refl, ap}
use Rattle.std.specs.Prelude.{◌||◌}
use Rattle.std.specs.List.{list_any}
use Rattle.je_base.specs.Text.{is_same_text}
use Rattle.je_tokens.specs.declared.words.TheConstants.{RESERVED}
use Rattle.je_tokens.specs.Words.{reserved_words}

pub reserved_is : map (λ word. word.now) RESERVED ≡ reserved_words
unfolding reserved_words
reserved_is = refl

-- a table of words behind references has the words
pub any-behind : {X : Type 0} (view : X → List ℕ) (words : List X) (w : List ℕ)
    → list_any (λ word. is_same_text (view word) w) words ≡ list_any (λ word. is_same_text word w) (map view words)
any-behind view [] w = refl
any-behind view (v ∷ words) w = ap (λ (rest : Bool). is_same_text (view v) w || rest) (any-behind view words w)
