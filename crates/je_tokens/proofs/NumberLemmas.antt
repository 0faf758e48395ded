-- Numbers of digits.
use Rattle.std.proofs.Common.{◌≡◌, ℕ, suc, ◌+◌, ◌*◌, ◌<◌, ◌≤◌, List, [], ◌∷◌, length, get_or, take, drop, refl, sym, ap, subst, ◌∙◌, take-append-drop, arith}
use Rattle.std.specs.List.{fold, take_while, prefix_len, AllByRecursion}
use Rattle.std.proofs.lemmas.Bool.Decides.{nat_tests}
use Rattle.std.proofs.lemmas.Grind.{common_steps}
use Rattle.std.proofs.lemmas.List.Sums.{take_while-cons}
use Rattle.std.specs.Prelude.{Bool, true, false, cond}
use Rattle.je_tokens.specs.Characters.{is_octal, is_hexadecimal}
use Rattle.std.specs.Char.{digit_value}
use Rattle.std.proofs.lemmas.List.Sums.{fold-append}
use Rattle.std.proofs.Math.Seq.{drop-cons}
use Rattle.je_tokens.specs.Numbers.{number}

abbrev onward : ℕ → ℕ → ℕ → ℕ
onward base value digit = value * base + digit_value digit

times_grows : (v base : ℕ) → 1 ≤ base → v ≤ v * base
times_grows v base h = grind arith

trans_le : (a b c : ℕ) → a ≤ b → b ≤ c → a ≤ c
trans_le a b c h k = omega arith

fold_grows : (base v : ℕ) (digits : List ℕ) → 1 ≤ base → v ≤ fold (onward base) v digits
fold_grows base v [] h = omega arith
fold_grows base v (d ∷ digits) h =
    let first = times_grows v base h in
    let rest = fold_grows base (v * base + digit_value d) digits h in
    trans_le v (v * base + digit_value d) (fold (onward base) (v * base + digit_value d) digits) (omega (arith, first)) rest

number_split : (base k item : ℕ) (digits : List ℕ) → k < length digits
    → number base digits ≡ fold (onward base) (number base (take k digits) * base + digit_value (get_or digits k item)) (drop (suc k) digits)
number_split base k item digits within =
    ap (number base) (sym (take-append-drop k digits))
    ∙ fold-append (onward base) 0 (take k digits) (drop k digits)
    ∙ ap (fold (onward base) (number base (take k digits))) (drop-cons digits k item within)

-- what is too large at a digit is so in the end
pub too_large : (base k limit value item : ℕ) (digits : List ℕ) → 1 ≤ base → k < length digits → item ≡ get_or digits k item
    → value ≡ number base (take k digits) → limit ≤ value * base + digit_value item → limit ≤ number base digits
too_large base k limit value item digits one within is so_far h =
    let here : limit ≤ number base (take k digits) * base + digit_value (get_or digits k item) = subst (λ (d : ℕ). limit ≤ number base (take k digits) * base + digit_value d) is (subst (λ (v : ℕ). limit ≤ v * base + digit_value item) so_far h) in
    subst (λ (n : ℕ). limit ≤ n) (sym (number_split base k item digits within))
    (trans_le limit _ _ here (fold_grows base (number base (take k digits) * base + digit_value (get_or digits k item)) (drop (suc k) digits) one))

-- ---- the digits of an escape

each_cond : (P : ℕ → Type 0) (b : Bool) (x : ℕ) (xs : List ℕ) → (b ≡ true → P x) → AllByRecursion P xs → AllByRecursion P (cond b (x ∷ xs) [])
each_cond P true x xs first rest = (first refl, rest)
each_cond P false x xs first rest = tt

each-taken : (test : ℕ → Bool) (P : ℕ → Type 0) → ((c : ℕ) → test c ≡ true → P c) → (xs : List ℕ) → AllByRecursion P (take_while test xs)
each-taken test P passes [] = tt
each-taken test P passes (x ∷ xs) =
    subst (AllByRecursion P) (sym (take_while-cons test x xs)) (each_cond P (test x) x (take_while test xs) (passes x) (each-taken test P passes xs))

octal_digit : (c : ℕ) → is_octal c ≡ true → digit_value c < 8
octal_digit c h = grind (arith, nat_tests)

hexadecimal_digit : (c : ℕ) → is_hexadecimal c ≡ true → digit_value c < 16
hexadecimal_digit c h = grind (arith, nat_tests)

three : (a b c : ℕ) → a < 8 → b < 8 → c < 8 → ((0 * 8 + a) * 8 + b) * 8 + c < 65536
three a b c h k l = omega arith

two : (a b : ℕ) → a < 8 → b < 8 → (0 * 8 + a) * 8 + b < 65536
two a b h k = omega arith

one : (a : ℕ) → a < 8 → 0 * 8 + a < 65536
one a h = omega arith

few_octal : (ds : List ℕ) → length ds ≤ 3 → AllByRecursion (λ c. digit_value c < 8) ds → number 8 ds < 65536
few_octal [] few each = omega arith
few_octal (a ∷ []) few each = one (digit_value a) each.0
few_octal (a ∷ b ∷ []) few each = two (digit_value a) (digit_value b) each.0 each.1.0
few_octal (a ∷ b ∷ c ∷ []) few each = three (digit_value a) (digit_value b) (digit_value c) each.0 each.1.0 each.1.1.0
few_octal (a ∷ b ∷ c ∷ d ∷ ds) few each = absurd (omega arith)

four : (a b c d : ℕ) → a < 16 → b < 16 → c < 16 → d < 16 → (((0 * 16 + a) * 16 + b) * 16 + c) * 16 + d < 65536
four a b c d h k l m = omega arith

four_hexadecimal : (ds : List ℕ) → length ds ≡ 4 → AllByRecursion (λ c. digit_value c < 16) ds → number 16 ds < 65536
four_hexadecimal [] is each = absurd (omega arith)
four_hexadecimal (a ∷ []) is each = absurd (omega arith)
four_hexadecimal (a ∷ b ∷ []) is each = absurd (omega arith)
four_hexadecimal (a ∷ b ∷ c ∷ []) is each = absurd (omega arith)
four_hexadecimal (a ∷ b ∷ c ∷ d ∷ []) is each =
    four (digit_value a) (digit_value b) (digit_value c) (digit_value d) each.0 each.1.0 each.1.1.0 each.1.1.1.0
four_hexadecimal (a ∷ b ∷ c ∷ d ∷ e ∷ ds) is each = absurd (omega arith)

few_taken : (n most : ℕ) (text : List ℕ) → most ≤ 3 → length (take n (take most text)) ≤ 3
few_taken n most text h = grind (arith, common_steps)

pub octal_fits : (n most : ℕ) (text front digits : List ℕ) → most ≤ 3 → front ≡ take most text → n ≡ prefix_len is_octal front → digits ≡ take n front → number 8 digits < 65536
octal_fits n most text front digits few short is taken =
    let at_most : length digits ≤ 3 = subst (λ (ds : List ℕ). length ds ≤ 3) (sym (taken ∙ ap (take n) short)) (few_taken n most text few) in
    let same : digits ≡ take_while is_octal front = taken ∙ ap (λ (k : ℕ). take k front) is in
    few_octal digits at_most (subst (AllByRecursion (λ c. digit_value c < 8)) (sym same) (each-taken is_octal (λ c. digit_value c < 8) octal_digit front))

pub hexadecimal_fits : (n : ℕ) (front digits : List ℕ) → length digits ≡ 4 → n ≡ prefix_len is_hexadecimal front → digits ≡ take n front → number 16 digits < 65536
hexadecimal_fits n front digits few is taken =
    let same : digits ≡ take_while is_hexadecimal front = taken ∙ ap (λ (k : ℕ). take k front) is in
    four_hexadecimal digits few (subst (AllByRecursion (λ c. digit_value c < 16)) (sym same) (each-taken is_hexadecimal (λ c. digit_value c < 16) hexadecimal_digit front))
