-- Characters of ASCII by their names.
use Rattle.std.specs.Prelude.{ℕ}

abbrev pub space : ℕ
space = 0x20

abbrev pub left_parenthesis : ℕ
left_parenthesis = 40

abbrev pub right_parenthesis : ℕ
right_parenthesis = 41

abbrev pub dot : ℕ
dot = 46

abbrev pub semicolon : ℕ
semicolon = 59

abbrev pub letter_L : ℕ
letter_L = 76

abbrev pub letter_V : ℕ
letter_V = 86

abbrev pub left_bracket : ℕ
left_bracket = 91

abbrev pub letter_x : ℕ
letter_x = 120

abbrev pub tilde : ℕ
tilde = 0x7e
