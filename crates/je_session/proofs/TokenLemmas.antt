-- The tokens of a text, from the front.
use Rattle.std.proofs.Common.{◌≡◌, ℕ, zero, suc, ◌<◌, ◌≤◌, List, [], ◌∷◌, ◌++◌, length, get_or, take, drop, refl, sym, ap, subst, ◌∙◌, append_assoc, take-append-drop, arith}
use Rattle.std.specs.List.{AllByRecursion}
use Rattle.std.proofs.lemmas.List.{append-nil}
use Rattle.je_base.specs.Text.{IsModifiedUtf8}
use Rattle.je_session.specs.declared.script.token.Token.{Token}
use Rattle.je_session.specs.declared.script.token.Token.TheVariants.{Word, Mark}
use Rattle.je_session.specs.Tokens.{IsWhite, IsMark, IsWordByte, IsWord, EndsWord, AreTokens}
use Rattle.je_session.specs.Reading.{Ends, SkipsWhite, Leads}

-- ---- bytes

white_no_mark : (b : ℕ) → IsWhite b → IsMark b → ⊥
white_no_mark b white mark = grind arith

white_no_word : (b : ℕ) → IsWhite b → IsWordByte b → ⊥
white_no_word b white word = grind arith

mark_no_word : (b : ℕ) → IsMark b → IsWordByte b → ⊥
mark_no_word b mark word = grind arith

word_is_ascii : (b : ℕ) → IsWordByte b → (0x01 ≤ b) × (b ≤ 0x7f)
word_is_ascii b word = (grind arith, grind arith)

-- each byte of a word is a unit of its own
pub IsModifiedUtf8-word : (w : List ℕ) → AllByRecursion IsWordByte w → IsModifiedUtf8 w
IsModifiedUtf8-word [] each = ([], tt, refl)
IsModifiedUtf8-word (b ∷ w) each =
    let rest = IsModifiedUtf8-word w each.1 in
    ((b ∷ []) ∷ rest.0, (word_is_ascii b each.0, rest.1), ap (λ (bytes : List ℕ). b ∷ bytes) rest.2)

-- ---- the longest front of bytes of one kind

each-append : (P : ℕ → Type 0) (a b : List ℕ) → AllByRecursion P a → AllByRecursion P b → AllByRecursion P (a ++ b)
each-append P [] b each_a each_b = each_b
each-append P (x ∷ a) b each_a each_b = (each_a.0, each-append P a b each_a.1 each_b)

each-append_right : (P : ℕ → Type 0) (a b : List ℕ) → AllByRecursion P (a ++ b) → AllByRecursion P b
each-append_right P [] b each = each
each-append_right P (x ∷ a) b each = each-append_right P a b each.1

-- there is one
longest_once : (P : ℕ → Type 0) (a b x y : List ℕ) → AllByRecursion P a → AllByRecursion P b → Ends P x → Ends P y → a ++ x ≡ b ++ y → (a ≡ b) × (x ≡ y)
longest_once P [] [] x y each_a each_b ends_x ends_y e = (refl, e)
longest_once P [] (d ∷ b) [] y each_a each_b ends_x ends_y e = absurd cc
longest_once P [] (d ∷ b) (c ∷ x) y each_a each_b ends_x ends_y e =
    let same : d ≡ c = cc in absurd (ends_x (subst P same each_b.0))
longest_once P (c ∷ a) [] x [] each_a each_b ends_x ends_y e = absurd cc
longest_once P (c ∷ a) [] x (d ∷ y) each_a each_b ends_x ends_y e =
    let same : c ≡ d = cc in absurd (ends_y (subst P same each_a.0))
longest_once P (c ∷ a) (d ∷ b) x y each_a each_b ends_x ends_y e =
    let same : c ≡ d = cc in
    let after : a ++ x ≡ b ++ y = cc in
    let rest = longest_once P a b x y each_a.1 each_b.1 ends_x ends_y after in
    (cc, rest.1)

-- from what is known at each index
pub longest_front : (P : ℕ → Type 0) (text : List ℕ) (n : ℕ) → n ≤ length text → ((k : ℕ) → k < n → P (get_or text k 0))
    → (n < length text → P (get_or text n 0) → ⊥) → AllByRecursion P (take n text) × Ends P (drop n text)
longest_front P [] zero within before ends = (tt, tt)
longest_front P (b ∷ text) zero within before ends = (tt, ends (omega arith))
longest_front P [] (suc n) within before ends = absurd (omega arith)
longest_front P (b ∷ text) (suc n) within before ends =
    let rest = longest_front P text n (omega arith) (λ k lt. before (suc k) (omega arith)) (λ lt. ends (omega arith)) in
    ((before 0 (omega arith), rest.0), rest.1)

-- ---- white space

pub SkipsWhite-front : (text : List ℕ) (n : ℕ) → n ≤ length text → ((k : ℕ) → k < n → IsWhite (get_or text k 0))
    → (n < length text → IsWhite (get_or text n 0) → ⊥) → SkipsWhite text (drop n text)
SkipsWhite-front text n within before ends =
    let front = longest_front IsWhite text n within before ends in
    record { white = take n text; each = front.0; whole = sym (take-append-drop n text); ends = front.1 }

-- a word does not begin with white space
Ends-word : (w rest : List ℕ) → IsWord w → Ends IsWhite (w ++ rest)
Ends-word [] rest word = absurd (word.0 refl)
Ends-word (b ∷ w) rest word = λ white. white_no_word b white word.1.0

-- the tokens of a text that does not begin with white space
abbrev AtFront : List ℕ → List Token → Type 0
AtFront text [] = text ≡ []
AtFront text (Mark m ∷ ts) = (rest : List ℕ) × IsMark m × (text ≡ m ∷ rest) × AreTokens rest ts
AtFront text (Word w ∷ ts) = (rest : List ℕ) × IsWord w × EndsWord rest × (text ≡ w ++ rest) × AreTokens rest ts

-- white space before the tokens is all of it that is there
AtFront-skipped : (white text : List ℕ) (ts : List Token) → AllByRecursion IsWhite white → Ends IsWhite text → AreTokens (white ++ text) ts → AtFront text ts
AtFront-skipped white [] [] each ends h = refl
AtFront-skipped white (b ∷ text) [] each ends h = absurd (ends (each-append_right IsWhite white (b ∷ text) h).0)
AtFront-skipped white text (Mark m ∷ ts) each ends (before, rest, each_before, mark, whole, more) =
    let e = longest_once IsWhite white before text (m ∷ rest) each each_before ends (λ w. white_no_mark m w mark) whole in
    (rest, mark, e.1, more)
AtFront-skipped white text (Word w ∷ ts) each ends (before, rest, each_before, word, ends_word, whole, more) =
    let e = longest_once IsWhite white before text (w ++ rest) each each_before ends (Ends-word w rest word) whole in
    (rest, word, ends_word, e.1, more)

AreTokens-front : (text : List ℕ) (ts : List Token) → AtFront text ts → AreTokens text ts
AreTokens-front text [] h = rw h tt
AreTokens-front text (Mark m ∷ ts) (rest, mark, whole, more) = ([], rest, tt, mark, whole, more)
AreTokens-front text (Word w ∷ ts) (rest, word, ends, whole, more) = ([], rest, tt, word, ends, whole, more)

AreTokens-white : (white text : List ℕ) (ts : List Token) → AllByRecursion IsWhite white → AreTokens text ts → AreTokens (white ++ text) ts
AreTokens-white white text [] each h = each-append IsWhite white text each h
AreTokens-white white text (Mark m ∷ ts) each (before, rest, each_before, mark, whole, more) =
    (white ++ before, rest, each-append IsWhite white before each each_before, mark, ap (λ (s : List ℕ). white ++ s) whole ∙ sym (append_assoc white before (m ∷ rest)), more)
AreTokens-white white text (Word w ∷ ts) each (before, rest, each_before, word, ends, whole, more) =
    (white ++ before, rest, each-append IsWhite white before each each_before, word, ends, ap (λ (s : List ℕ). white ++ s) whole ∙ sym (append_assoc white before (w ++ rest)), more)

pub Leads-white : (text rest : List ℕ) → SkipsWhite text rest → Leads text [] rest
Leads-white text rest skips = record {
  joins = λ more h. subst (λ (s : List ℕ). AreTokens s more) (sym skips.whole) (AreTokens-white skips.white rest more skips.each h);
  splits = λ ts h. (ts, refl, AreTokens-front rest ts (AtFront-skipped skips.white rest ts skips.each skips.ends (subst (λ (s : List ℕ). AreTokens s ts) skips.whole h)));
}

-- ---- one token

at_front : (text : List ℕ) (ts : List Token) → Ends IsWhite text → AreTokens text ts → AtFront text ts
at_front text ts ends h = AtFront-skipped [] text ts tt ends h

mark_splits : (m : ℕ) (rest : List ℕ) → IsMark m → (ts : List Token) → AtFront (m ∷ rest) ts
    → (more : List Token) × (ts ≡ Mark m ∷ more) × AreTokens rest more
mark_splits m rest mark [] h = absurd cc
mark_splits m rest mark (Mark n ∷ ts) (after, mark_n, whole, more) =
    let same : rest ≡ after = cc in (ts, cc, rw same more)
mark_splits m rest mark (Word [] ∷ ts) (after, word, ends, whole, more) = absurd (word.0 refl)
mark_splits m rest mark (Word (b ∷ w) ∷ ts) (after, word, ends, whole, more) =
    let same : b ≡ m = cc in absurd (mark_no_word m mark (subst IsWordByte same word.1.0))

pub Leads-mark : (m : ℕ) (rest : List ℕ) → IsMark m → Leads (m ∷ rest) (Mark m ∷ []) rest
Leads-mark m rest mark = record {
  joins = λ more h. ([], rest, tt, mark, refl, h);
  splits = λ ts h. mark_splits m rest mark ts (at_front (m ∷ rest) ts (λ white. white_no_mark m white mark) h);
}

word_splits : (w rest : List ℕ) → IsWord w → EndsWord rest → (ts : List Token) → AtFront (w ++ rest) ts
    → (more : List Token) × (ts ≡ Word w ∷ more) × AreTokens rest more
word_splits [] rest word ends ts h = absurd (word.0 refl)
word_splits (b ∷ w) rest word ends [] h = absurd cc
word_splits (b ∷ w) rest word ends (Mark m ∷ ts) (after, mark, whole, more) =
    let same : b ≡ m = cc in absurd (mark_no_word m mark (subst IsWordByte same word.1.0))
word_splits (b ∷ w) rest word ends (Word v ∷ ts) (after, word_v, ends_v, whole, more) =
    let e = longest_once IsWordByte (b ∷ w) v rest after word.1 word_v.1 (Ends-from_word rest ends) (Ends-from_word after ends_v) whole in
    (ts, ap (λ (u : List ℕ). Word u ∷ ts) (sym e.0), rw e.1 more)
  where
    Ends-from_word : (bytes : List ℕ) → EndsWord bytes → Ends IsWordByte bytes
    Ends-from_word [] h = tt
    Ends-from_word (c ∷ bytes) h = h

pub Leads-word : (w rest : List ℕ) → IsWord w → EndsWord rest → Leads (w ++ rest) (Word w ∷ []) rest
Leads-word w rest word ends = record {
  joins = λ more h. ([], rest, tt, word, ends, refl, h);
  splits = λ ts h. word_splits w rest word ends ts (at_front (w ++ rest) ts (Ends-word w rest word) h);
}

-- no token begins with another byte
none_at_front : (b : ℕ) (rest : List ℕ) → (IsMark b → ⊥) → (IsWordByte b → ⊥) → (ts : List Token) → AtFront (b ∷ rest) ts → ⊥
none_at_front b rest no_mark no_word [] h = cc
none_at_front b rest no_mark no_word (Mark m ∷ ts) (after, mark, whole, more) =
    let same : m ≡ b = cc in no_mark (subst IsMark same mark)
none_at_front b rest no_mark no_word (Word [] ∷ ts) (after, word, ends, whole, more) = word.0 refl
none_at_front b rest no_mark no_word (Word (c ∷ w) ∷ ts) (after, word, ends, whole, more) =
    let same : c ≡ b = cc in no_word (subst IsWordByte same word.1.0)

pub no_tokens : (text : List ℕ) → 0 < length text → Ends IsWhite text → (IsMark (get_or text 0 0) → ⊥) → (IsWordByte (get_or text 0 0) → ⊥) → (ts : List Token) → AreTokens text ts → ⊥
no_tokens [] some ends no_mark no_word ts h = omega arith
no_tokens (b ∷ text) some ends no_mark no_word ts h = none_at_front b text no_mark no_word ts (at_front (b ∷ text) ts ends h)

-- ---- one after the other

pub Leads-then : (a b c : List ℕ) (front next : List Token) → Leads a front b → Leads b next c → Leads a (front ++ next) c
Leads-then a b c front next first second = record {
  joins = λ more h. subst (AreTokens a) (sym (append_assoc front next more)) (first.joins (next ++ more) (second.joins more h));
  splits = λ ts h.
      let one = first.splits ts h in
      let two = second.splits one.0 one.2 in
      (two.0, one.1 ∙ ap (λ (u : List Token). front ++ u) two.1 ∙ sym (append_assoc front next two.0), two.2);
}

-- a token more, and the white space after it
pub Leads-next : (a b after c : List ℕ) (front : List Token) (token : Token) → Leads a front b → Leads b (token ∷ []) after → SkipsWhite after c → Leads a (front ++ token ∷ []) c
Leads-next a b after c front token first second skips =
    Leads-then a b c front (token ∷ []) first (Leads-then b after c (token ∷ []) [] second (Leads-white after c skips))

-- a text without more tokens has those that lead to its end, and no others
pub Leads-end : (text : List ℕ) (front : List Token) → Leads text front [] → AreTokens text front × ((ts : List Token) → AreTokens text ts → front ≡ ts)
Leads-end text front leads = (subst (AreTokens text) (append-nil front) (leads.joins [] tt), λ ts h. nothing_after ts (leads.splits ts h))
  where
    nothing_after : (ts : List Token) → (more : List Token) × (ts ≡ front ++ more) × AreTokens [] more → front ≡ ts
    nothing_after ts (more, e, h) =
        let none : more ≡ [] = is_nil more (at_front [] more tt h) in
        sym (e ∙ ap (λ (u : List Token). front ++ u) none ∙ append-nil front)
      where
        is_nil : (more : List Token) → AtFront [] more → more ≡ []
        is_nil [] h = refl
        is_nil (Mark m ∷ ts) (rest, mark, whole, tokens) = absurd cc
        is_nil (Word [] ∷ ts) (rest, word, ends, whole, tokens) = absurd (word.0 refl)
        is_nil (Word (b ∷ w) ∷ ts) (rest, word, ends, whole, tokens) = absurd cc

-- ---- what the code finds

pub Leads-first_mark : (text : List ℕ) → 0 < length text → IsMark (get_or text 0 0) → Leads text (Mark (get_or text 0 0) ∷ []) (drop 1 text)
Leads-first_mark [] some mark = absurd (omega arith)
Leads-first_mark (m ∷ text) some mark = Leads-mark m text mark

is_word : (w : List ℕ) → 0 < length w → AllByRecursion IsWordByte w → IsWord w
is_word [] some each = absurd (omega arith)
is_word (b ∷ w) some each = (λ e. cc, each)

EndsWord-from_ends : (bytes : List ℕ) → Ends IsWordByte bytes → EndsWord bytes
EndsWord-from_ends [] h = tt
EndsWord-from_ends (b ∷ bytes) h = h

pub Leads-first_word : (text : List ℕ) (n : ℕ) → n ≤ length text → ((k : ℕ) → k < n → IsWordByte (get_or text k 0))
    → (n < length text → IsWordByte (get_or text n 0) → ⊥) → 0 < length (take n text) → Leads text (Word (take n text) ∷ []) (drop n text)
Leads-first_word text n within before ends some =
    let front = longest_front IsWordByte text n within before ends in
    subst (λ (s : List ℕ). Leads s (Word (take n text) ∷ []) (drop n text)) (take-append-drop n text)
    (Leads-word (take n text) (drop n text) (is_word (take n text) some front.0) (EndsWord-from_ends (drop n text) front.1))

pub IsModifiedUtf8-front : (text : List ℕ) (n : ℕ) → n ≤ length text → ((k : ℕ) → k < n → IsWordByte (get_or text k 0))
    → (n < length text → IsWordByte (get_or text n 0) → ⊥) → IsModifiedUtf8 (take n text)
IsModifiedUtf8-front text n within before ends = IsModifiedUtf8-word (take n text) (longest_front IsWordByte text n within before ends).0

-- ---- a text has one list of tokens

leads_all : (text : List ℕ) (ts : List Token) → AreTokens text ts → Leads text ts []
leads_all text [] h = Leads-white text [] (record { white = text; each = h; whole = sym (append-nil text); ends = tt })
leads_all text (Mark m ∷ ts) (white, rest, each, mark, whole, more) =
    Leads-then text (m ∷ rest) [] [] (Mark m ∷ ts)
    (Leads-white text (m ∷ rest) (record { white = white; each = each; whole = whole; ends = λ is_white. white_no_mark m is_white mark }))
    (Leads-then (m ∷ rest) rest [] (Mark m ∷ []) ts (Leads-mark m rest mark) (leads_all rest ts more))
leads_all text (Word w ∷ ts) (white, rest, each, word, ends, whole, more) =
    Leads-then text (w ++ rest) [] [] (Word w ∷ ts)
    (Leads-white text (w ++ rest) (record { white = white; each = each; whole = whole; ends = Ends-word w rest word }))
    (Leads-then (w ++ rest) rest [] (Word w ∷ []) ts (Leads-word w rest word ends) (leads_all rest ts more))

pub one_tokens : (text : List ℕ) (ts us : List Token) → AreTokens text ts → AreTokens text us → ts ≡ us
one_tokens text ts us h k = (Leads-end text ts (leads_all text ts h)).1 us k
