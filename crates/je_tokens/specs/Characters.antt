-- The characters of tokens (JLS SE 8 3.4 to 3.10), by their numbers in Unicode.
use Rattle.std.specs.Prelude.{ℕ, List, Bool, ◌==◌, ◌&&◌, ◌||◌, nat_le, not}
use Rattle.std.specs.List.{flat_map}
use Rattle.je_base.specs.Encoding.{unit, char_units}

abbrev pub line_feed : ℕ
line_feed = 10

abbrev pub double_quote : ℕ
double_quote = 34

abbrev pub dollar : ℕ
dollar = 36

abbrev pub quote : ℕ
quote = 39

abbrev pub minus : ℕ
minus = 45

abbrev pub dot : ℕ
dot = 46

abbrev pub zero_digit : ℕ
zero_digit = 48

abbrev pub backslash : ℕ
backslash = 92

abbrev pub underscore : ℕ
underscore = 95

abbrev pub is_from_to : ℕ → ℕ → ℕ → Bool
is_from_to first last c = nat_le first c && nat_le c last

-- space, tab, line feed, form feed or carriage return
abbrev pub is_white : ℕ → Bool
is_white c = c == 32 || (c == 9 || (c == 10 || (c == 12 || c == 13)))

-- a letter of ASCII
abbrev pub is_letter : ℕ → Bool
is_letter c = is_from_to 65 90 c || is_from_to 97 122 c

abbrev pub is_digit : ℕ → Bool
is_digit c = is_from_to 48 57 c

abbrev pub is_octal : ℕ → Bool
is_octal c = is_from_to 48 55 c

abbrev pub is_hexadecimal : ℕ → Bool
is_hexadecimal c = is_digit c || (is_from_to 65 70 c || is_from_to 97 102 c)

-- what an identifier begins with: a letter or `_`
abbrev pub begins_name : ℕ → Bool
begins_name c = is_letter c || c == underscore

-- a letter, a digit, `_` or `$`
abbrev pub is_word : ℕ → Bool
is_word c = is_letter c || (is_digit c || (c == underscore || c == dollar))

-- a comment to the end of the line goes on with it
abbrev pub is_on_line : ℕ → Bool
is_on_line c = not (c == line_feed)

-- the text of UTF-16 code units, and that of characters
abbrev pub text_of_units : List ℕ → List ℕ
text_of_units units = flat_map unit units

abbrev pub text_of : List ℕ → List ℕ
text_of characters = text_of_units (flat_map char_units characters)
