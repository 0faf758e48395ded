-- The tokens of a script's text.
use Rattle.std.specs.Prelude.{◌≡◌, ◌≢◌, ℕ, ◌≤◌, ◌⊎◌, List, [], ◌∷◌, ◌++◌}
use Rattle.std.specs.List.{AllByRecursion}
use Rattle.je_base.specs.Ascii.{space, left_parenthesis, right_parenthesis, semicolon, dot}
use Rattle.je_session.specs.declared.script.token.Token.{Token}
use Rattle.je_session.specs.declared.script.token.Token.TheVariants.{Word, Mark}

-- ---- bytes, by what they are in ASCII

abbrev pub left_brace : ℕ
left_brace = 123

abbrev pub right_brace : ℕ
right_brace = 125

abbrev pub underscore : ℕ
underscore = 95

abbrev pub dollar : ℕ
dollar = 36

-- space, tab, line feed, form feed or carriage return
abbrev pub IsWhite : ℕ → Type 0
IsWhite b = (b ≡ space) ⊎ (b ≡ 9) ⊎ (b ≡ 10) ⊎ (b ≡ 12) ⊎ (b ≡ 13)

-- a letter of ASCII
abbrev pub IsLetter : ℕ → Type 0
IsLetter b = ((65 ≤ b) × (b ≤ 90)) ⊎ ((97 ≤ b) × (b ≤ 122))

-- a digit
abbrev pub IsDigit : ℕ → Type 0
IsDigit b = (48 ≤ b) × (b ≤ 57)

-- a letter, a digit, `_` or `$`
abbrev pub IsWordByte : ℕ → Type 0
IsWordByte b = IsLetter b ⊎ IsDigit b ⊎ (b ≡ underscore) ⊎ (b ≡ dollar)

-- one of `{ } ( ) ; .`
abbrev pub IsMark : ℕ → Type 0
IsMark b =
    (b ≡ left_brace) ⊎ (b ≡ right_brace) ⊎ (b ≡ left_parenthesis) ⊎ (b ≡ right_parenthesis)
    ⊎ (b ≡ semicolon) ⊎ (b ≡ dot)

abbrev pub IsWord : List ℕ → Type 0
IsWord w = (w ≢ []) × AllByRecursion IsWordByte w

-- no word goes on here
abbrev pub EndsWord : List ℕ → Type 0
EndsWord [] = Unit {0}
EndsWord (b ∷ bytes) = IsWordByte b → ⊥

-- The text is these tokens, each as long as it can be, with white space before them and at the end.
abbrev pub AreTokens : List ℕ → List Token → Type 0
AreTokens text [] = AllByRecursion IsWhite text
AreTokens text (Mark m ∷ tokens) =
    (white : List ℕ) × (rest : List ℕ)
    × AllByRecursion IsWhite white × IsMark m × (text ≡ white ++ m ∷ rest) × AreTokens rest tokens
AreTokens text (Word w ∷ tokens) =
    (white : List ℕ) × (rest : List ℕ)
    × AllByRecursion IsWhite white × IsWord w × EndsWord rest × (text ≡ white ++ (w ++ rest))
    × AreTokens rest tokens
