-- No two strings have one encoding: the first character of what is encoded is told by the bytes.
use Rattle.std.proofs.Common.{◌≡◌, ℕ, ◌+◌, ◌-◌, ◌/◌, ◌%◌, ◌^◌, ◌<◌, ◌≤◌, inl, inr, ◌⊎◌, List, [], ◌∷◌, ◌++◌, map, cond, ◌&&◌, Bool, Some, None, true, false, refl, sym, ap, ◌∙◌, append_assoc, append-nil, subst, length, arith}
use Rattle.std.specs.List.{flat_map, AllByRecursion}
use Rattle.std.specs.Str.{chars, all_scalars, bytes_eq, IsUtf8}
use Rattle.std.specs.Option.{unwrap_or}
use Rattle.std.specs.Char.{IsScalar, encode_utf8}
use Rattle.std.specs.Char.Utf16.{utf16_chars, utf16_lossy_chars, lone_unit_char, surrogate_pair_char}
use Rattle.std.proofs.lemmas.Bool.Decides.{nat_tests}
use Rattle.std.proofs.lemmas.Str.{utf16_chars_lone, utf16_chars_pair, utf16_chars-nil, chars-nil, chars-append, chars-encodes, scalars-chars}
use Rattle.std.proofs.lemmas.Bool.{cases_lt}
use Rattle.std.proofs.lemmas.List.{append_cancel_left}
use Rattle.std.specs.Cmp.Derive.{both_true}
use Rattle.std.proofs.lemmas.Slice.Eq.{bytes_eq-Decides}
use Rattle.std.proofs.lemmas.Grind.{flat_map-append}
use lib.Utf8.{scalar, scalar_cases}
use Rattle.je_base.specs.Text.{IsUnit, IsModifiedUtf8}
use Rattle.je_base.specs.Encoding.{unit, char_units, char_bytes, encoding, decoded, IsDecoded, EncodesNone, BeginsNoChar}

-- both of two tests are true
pub and_true : (a b : Bool) → (a && b) ≡ true → (a ≡ true) × (b ≡ true)
and_true true b h = (refl, h)
and_true false b h = absurd cc

scalar_below : (c : ℕ) → IsScalar c → c < 0x11_0000
scalar_below c h = grind (arith, scalar_cases c h)

-- the bytes of a code unit, by its size
unit_one : (u : ℕ) → 0 < u → u < 0x80 → unit u ≡ u ∷ []
unit_one u from below = grind (arith, nat_tests)

unit_two : (u : ℕ) → u < 0x800 → (u ≡ 0) ⊎ (0x80 ≤ u) → unit u ≡ (0xc0 + u / 0x40) ∷ (0x80 + u % 0x40) ∷ []
unit_two u below h = grind (arith, nat_tests)

unit_three : (u : ℕ) → 0x800 ≤ u → unit u ≡ (0xe0 + u / 0x1000) ∷ (0x80 + u / 0x40 % 0x40) ∷ (0x80 + u % 0x40) ∷ []
unit_three u from = grind (arith, nat_tests)

-- the first code unit of bytes
pub chars_unit : (u : ℕ) (rest : List ℕ) → u < 2 ^ 16 → chars (unit u ++ rest) ≡ u ∷ chars rest
unfolding chars
chars_unit u [] h = grind (arith, nat_tests)
chars_unit u (b ∷ bs) h = grind (arith, nat_tests)

char_units_one : (c : ℕ) → c < 0x1_0000 → char_units c ≡ c ∷ []
char_units_one c h = grind (arith, nat_tests)

char_units_two : (c : ℕ) → 0x1_0000 ≤ c → char_units c ≡ (0xd800 + (c - 0x1_0000) / 0x400) ∷ (0xdc00 + (c - 0x1_0000) % 0x400) ∷ []
char_units_two c h = grind (arith, nat_tests)

lone_unit_char_is : (c : ℕ) → (c < 0xd800) ⊎ (0xe000 ≤ c) → lone_unit_char c ≡ Some c
lone_unit_char_is c h = grind (arith, nat_tests)

-- a character that is its own code unit, and one that has two
units_one : (c : ℕ) (rest : List ℕ) → c < 0x1_0000 → (c < 0xd800) ⊎ (0xe000 ≤ c) → utf16_chars (char_units c ++ rest) ≡ Some c ∷ utf16_chars rest
units_one c rest h apart =
    rw (char_units_one c h) (utf16_chars_lone c rest (λ pair. absurd (grind arith)) ∙ ap (λ o. o ∷ utf16_chars rest) (lone_unit_char_is c apart))

units_two : (c : ℕ) (rest : List ℕ) → 0x1_0000 ≤ c → c < 0x11_0000 → utf16_chars (char_units c ++ rest) ≡ Some c ∷ utf16_chars rest
units_two c rest low high =
    let high_unit : (c - 0x1_0000) / 0x400 < 0x400 = omega arith in
    let low_unit : (c - 0x1_0000) % 0x400 < 0x400 = omega arith in
    let same : surrogate_pair_char (0xd800 + (c - 0x1_0000) / 0x400) (0xdc00 + (c - 0x1_0000) % 0x400) ≡ c = omega arith in
    rw (char_units_two c low) (utf16_chars_pair _ _ rest (omega arith, omega arith, omega arith, omega arith) ∙ ap (λ d. Some d ∷ utf16_chars rest) same)

-- the first character of code units
pub utf16_chars_units : (c : ℕ) (rest : List ℕ) → IsScalar c → utf16_chars (char_units c ++ rest) ≡ Some c ∷ utf16_chars rest
utf16_chars_units c rest h = elim (scalar_cases c h) [
  | inl low ↦ units_one c rest (omega arith) (inl low)
  | inr high ↦ elim (cases_lt c 0x1_0000) [
    | inl one ↦ units_one c rest one (inr high.0)
    | inr two ↦ units_two c rest (omega arith) high.1
  ]
]

-- bytes of code units, read as UTF-8 reads characters
chars_units : (units rest : List ℕ) → AllByRecursion (λ u. u < 2 ^ 16) units → chars (flat_map unit units ++ rest) ≡ units ++ chars rest
chars_units [] rest h = refl
chars_units (u ∷ units) rest h =
    ap chars (append_assoc (unit u) (flat_map unit units) rest) ∙ chars_unit u (flat_map unit units ++ rest) h.0 ∙ ap (λ us. u ∷ us) (chars_units units rest h.1)

units_fit : (c : ℕ) → c < 0x11_0000 → AllByRecursion (λ u. u < 2 ^ 16) (char_units c)
units_fit c h = elim (cases_lt c 0x1_0000) [
  | inl one ↦ rw (char_units_one c one) (omega arith, tt)
  | inr two ↦ rw (char_units_two c two) (omega arith, (omega arith, tt))
]

-- the first character of bytes
pub first_char : (c : ℕ) (rest : List ℕ) → IsScalar c → utf16_chars (chars (char_bytes c ++ rest)) ≡ Some c ∷ utf16_chars (chars rest)
first_char c rest h =
    ap utf16_chars (chars_units (char_units c) rest (units_fit c (scalar_below c h))) ∙ utf16_chars_units c (chars rest) h

-- the first character of bytes and what comes after it are told by the bytes
pub same_char : (c d : ℕ) (rest others : List ℕ) → IsScalar c → IsScalar d → char_bytes c ++ rest ≡ char_bytes d ++ others → (c ≡ d) × (rest ≡ others)
same_char c d rest others hc hd e =
    let heads : Some c ∷ utf16_chars (chars rest) ≡ Some d ∷ utf16_chars (chars others) = sym (first_char c rest hc) ∙ ap (λ bs. utf16_chars (chars bs)) e ∙ first_char d others hd in
    let same : c ≡ d = cc in
    (same, append_cancel_left (char_bytes d) rest others (ap (λ x. char_bytes x ++ rest) (sym same) ∙ e))

IsUnit-unit : (u : ℕ) → u < 2 ^ 16 → IsUnit (unit u)
IsUnit-unit u h = elim (cases_lt u 0x80) [
  | inl one ↦ elim (cases_lt 0 u) [
    | inl from ↦ rw (unit_one u from one) (omega arith, omega arith)
    | inr zero ↦ rw (unit_two u (omega arith) (inl (omega arith))) ((omega arith, omega arith), (omega arith, omega arith))
  ]
  | inr more ↦ elim (cases_lt u 0x800) [
    | inl two ↦ rw (unit_two u two (inr more)) ((omega arith, omega arith), (omega arith, omega arith))
    | inr three ↦ rw (unit_three u three) ((omega arith, omega arith), (omega arith, omega arith), (omega arith, omega arith))
  ]
]

IsModifiedUtf8-units : (units rest : List ℕ) → AllByRecursion (λ u. u < 2 ^ 16) units → IsModifiedUtf8 rest → IsModifiedUtf8 (flat_map unit units ++ rest)
IsModifiedUtf8-units [] rest h text = text
IsModifiedUtf8-units (u ∷ units) rest h text =
    let more = IsModifiedUtf8-units units rest h.1 text in
    (unit u ∷ more.0, (IsUnit-unit u h.0, more.1), append_assoc (unit u) (flat_map unit units) rest ∙ ap (λ bs. unit u ++ bs) more.2)

-- what is encoded is modified UTF-8
pub IsModifiedUtf8-encoding : (string : List ℕ) → all_scalars string ≡ true → IsModifiedUtf8 (encoding string)
IsModifiedUtf8-encoding [] h = ([], tt, refl)
IsModifiedUtf8-encoding (c ∷ string) h = IsModifiedUtf8-units (char_units c) (encoding string) (units_fit c (scalar_below c (and_true _ _ h).0)) (IsModifiedUtf8-encoding string (and_true _ _ h).1)

-- what begins with a character is the encoding of that character and others
pub encoding_from_char : (string rest : List ℕ) (c : ℕ) → IsScalar c → IsDecoded (char_bytes c ++ rest) string → (left : List ℕ) × (string ≡ c ∷ left) × IsDecoded rest left
encoding_from_char [] rest c hc (h, e) =
    let none : utf16_chars [] ≡ Some c ∷ utf16_chars (chars rest) = ap utf16_chars (sym chars-nil ∙ ap chars e) ∙ first_char c rest hc in
    absurd (cc utf16_chars-nil)
encoding_from_char (d ∷ string) rest c hc (h, e) =
    let parts = and_true (scalar d) (all_scalars string) h in
    let same = same_char d c (encoding string) rest parts.0 hc e in
    (string, ap (λ x. x ∷ string) same.0, (parts.1, same.1))

-- the string that an encoding encodes
pub lossy_encoding : (string : List ℕ) → all_scalars string ≡ true → utf16_lossy_chars (chars (encoding string)) ≡ string
lossy_encoding [] h = rw (chars-nil, utf16_chars-nil)
lossy_encoding (c ∷ string) h =
    let parts = and_true (scalar c) (all_scalars string) h in
    ap (map (λ o. unwrap_or o 0xFFFD)) (first_char c (encoding string) parts.0) ∙ ap (λ s. c ∷ s) (lossy_encoding string parts.1)

-- what is decoded is the string of it
pub decoded_is : (bytes string : List ℕ) → IsDecoded bytes string → decoded bytes ≡ Some string
decoded_is bytes string (h, e) =
    let same : utf16_lossy_chars (chars bytes) ≡ string = ap (λ bs. utf16_lossy_chars (chars bs)) (sym e) ∙ lossy_encoding string h in
    let test = both_true h ((bytes_eq-Decides (encoding string) bytes).1 e) in
    rw same (ap (λ b. cond b (Some string) None) test)

-- and what has no string is decoded to none
decoded_some : (string bytes : List ℕ) (test : Bool) → (all_scalars string && bytes_eq (encoding string) bytes) ≡ test → (IsDecoded bytes string → ⊥) → cond test (Some string) None ≡ None
decoded_some string bytes false e h = refl
decoded_some string bytes true e h =
    let parts = and_true _ _ e in
    absurd (h (parts.0, (bytes_eq-Decides (encoding string) bytes).0 parts.1))

pub decoded_none : (bytes : List ℕ) → EncodesNone bytes → decoded bytes ≡ None
decoded_none bytes h = let string = utf16_lossy_chars (chars bytes) in decoded_some string bytes _ refl (h string)

-- no two strings have one encoding
pub decoded_same : (bytes string other : List ℕ) → IsDecoded bytes string → IsDecoded bytes other → string ≡ other
decoded_same bytes string other h k = let found : Some string ≡ Some other = sym (decoded_is bytes string h) ∙ decoded_is bytes other k in cc

-- what the bytes encode begins with the front, and goes on as what the rest encodes
abbrev pub Leads : List ℕ → List ℕ → List ℕ → Type 0
Leads bytes front rest = (string : List ℕ) → IsDecoded bytes string → (left : List ℕ) × (string ≡ front ++ left) × IsDecoded rest left

leads_on : (bytes front rest : List ℕ) (c : ℕ) → IsScalar c → Leads bytes front (char_bytes c ++ rest) → Leads bytes (front ++ c ∷ []) rest
leads_on bytes front rest c hc h string d =
    let found = h string d in
    let next = encoding_from_char found.0 rest c hc found.2 in
    (next.0, found.1 ∙ ap (λ s. front ++ s) next.1 ∙ sym (append_assoc front (c ∷ []) next.0), next.2)

-- the characters of UTF-8 and one more
chars_push : (text : List ℕ) (c : ℕ) → IsUtf8 text → IsScalar c → chars (text ++ encode_utf8 c) ≡ chars text ++ c ∷ []
chars_push text c utf8 hc =
    let one : chars (encode_utf8 c) ≡ c ∷ [] = ap chars (sym (append-nil (encode_utf8 c))) ∙ chars-encodes (c ∷ []) (both_true hc refl) in
    chars-append text (encode_utf8 c) utf8 ∙ ap (λ s. chars text ++ s) one

-- so many bytes are decoded to the text in UTF-8, and the rest is left
pub record Reads (bytes text rest : List ℕ) : Type 0 where
  pub front : encoding (chars text) ++ rest ≡ bytes
  pub leads : Leads bytes (chars text) rest

pub reads_none : (bytes : List ℕ) → Reads bytes [] bytes
reads_none bytes =
    record { front = ap (λ s. encoding s ++ bytes) chars-nil; leads = λ string d. (string, ap (λ s. s ++ string) (sym chars-nil), d) }

pub reads_on : (bytes text rest others : List ℕ) (c : ℕ) → IsUtf8 text → IsScalar c → rest ≡ char_bytes c ++ others → Reads bytes text rest → Reads bytes (text ++ encode_utf8 c) others
reads_on bytes text rest others c utf8 hc e h =
    let more = chars_push text c utf8 hc in
    let front = ap encoding more ∙ flat_map-append char_bytes (chars text) (c ∷ []) in
    record {
      front = ap (λ bs. bs ++ others) front ∙ append_assoc (encoding (chars text)) (char_bytes c ++ []) others ∙ ap (λ bs. encoding (chars text) ++ bs) (ap (λ bs. bs ++ others) (append-nil (char_bytes c)) ∙ sym e) ∙ h.front;
      leads = subst (λ s. Leads bytes s others) (sym more) (leads_on bytes (chars text) others c hc (subst (Leads bytes (chars text)) e h.leads));
    }

-- all is decoded
pub reads_all : (bytes text rest : List ℕ) → IsUtf8 text → length rest ≡ 0 → Reads bytes text rest → IsDecoded bytes (chars text)
reads_all bytes text [] utf8 none h = (scalars-chars text utf8, sym (append-nil (encoding (chars text))) ∙ h.front)
reads_all bytes text (b ∷ rest) utf8 none h = absurd (omega arith)

stuck : (rest : List ℕ) → BeginsNoChar rest → 0 < length rest → (left : List ℕ) → IsDecoded rest left → ⊥
stuck rest none some [] (h, e) = let len : length rest ≡ 0 = ap length (sym e) in absurd (omega arith)
stuck rest none some (c ∷ left) (h, e) = none c (encoding left) (and_true (scalar c) (all_scalars left) h).0 (sym e)

-- what does not go on with a character is no encoding
pub reads_stops : (bytes text rest : List ℕ) → BeginsNoChar rest → 0 < length rest → Reads bytes text rest → EncodesNone bytes
reads_stops bytes text rest none some h string d = let found = h.leads string d in stuck rest none some found.0 found.2
