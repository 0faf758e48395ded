-- Serves private functions: how the tokens of a text, and the script of its tokens, are read from
-- the front.
use Rattle.std.specs.Prelude.{◌≡◌, ℕ, List, [], ◌∷◌, ◌++◌, codes, Bool, false, ◌&&◌, ◌||◌, not}
use Rattle.std.specs.Prelude.{nat_le, ◌==◌, if◌then◌else◌, Option, Some, None, Result, Ok, Err}
use Rattle.std.specs.List.{AllByRecursion, list_any}
use Rattle.je_base.specs.Text.{is_same_text}
use Rattle.je_base.specs.Ascii.{left_parenthesis, right_parenthesis, semicolon, dot}
use Rattle.je_session.specs.declared.plan.Fragment.{Fragment}
use Rattle.je_session.specs.declared.plan.Fragment.TheVariants.{Empty, Proceed}
use Rattle.je_session.specs.declared.plan.Rule.{Rule}
use Rattle.je_session.specs.declared.plan.MethodPlan.{MethodPlan}
use Rattle.je_session.specs.declared.plan.Script.{Script}
use Rattle.je_session.specs.declared.script.token.Token.{Token}
use Rattle.je_session.specs.declared.script.token.Token.TheVariants.{Word, Mark}
use Rattle.je_session.specs.declared.script.tokens.ScriptStop.{ScriptStop}
use Rattle.je_session.specs.declared.script.tokens.ScriptStop.TheVariants as stop
use Rattle.je_session.specs.Script.{reserved_words}
use Rattle.je_session.specs.Tokens.{left_brace, right_brace, underscore, IsWhite, AreTokens}

-- ---- texts

-- the text does not begin with such a byte
abbrev pub Ends : (ℕ → Type 0) → List ℕ → Type 0
Ends P [] = Unit {0}
Ends P (b ∷ bytes) = P b → ⊥

-- The rest is the text without the white space at its front.
pub record SkipsWhite (text rest : List ℕ) : Type 0 where
  pub white : List ℕ
  pub each : AllByRecursion IsWhite white
  pub whole : text ≡ white ++ rest
  pub ends : Ends IsWhite rest

-- The tokens of the text are these, and then those of the rest.
pub record Leads (text : List ℕ) (front : List Token) (rest : List ℕ) : Type 0 where
  pub joins : (more : List Token) → AreTokens rest more → AreTokens text (front ++ more)
  pub splits : (ts : List Token) → AreTokens text ts
      → (more : List Token) × (ts ≡ front ++ more) × AreTokens rest more

-- ---- tokens

-- What a function returned, seen by view, is what is read, unless memory ran out.
abbrev pub Gives : {X Y : Type 0} → (X → Y) → Result X ScriptStop → Option Y → Type 0
Gives view (Ok x) read = read ≡ Some (view x)
Gives view (Err stop.NotYet) read = read ≡ None
Gives view (Err stop.Memory) read = Unit {0}

-- nothing is read after what is not read
infixl 10 ◌>>=◌
abbrev pub ◌>>=◌ : {A B : Type 0} → Option A → (A → Option B) → Option B
(Some x) >>= f = f x
None >>= f = None

-- the tests for a name
unfoldable pub is_reserved : List ℕ → Bool
is_reserved word = list_any (λ reserved. is_same_text reserved word) reserved_words

abbrev pub begins_name : List ℕ → Bool
begins_name [] = false
begins_name (b ∷ bytes) =
    (nat_le 65 b && nat_le b 90) || ((nat_le 97 b && nat_le b 122) || b == underscore)

abbrev pub is_ident : List ℕ → Bool
is_ident word = begins_name word && not (is_reserved word)

-- The tokens after a word or a mark, where it is there.
abbrev pub after_word : List ℕ → List Token → Option (List Token)
after_word word (Word w ∷ rest) = if is_same_text w word then Some rest else None
after_word word (Mark m ∷ rest) = None
after_word word [] = None

abbrev pub after_mark : ℕ → List Token → Option (List Token)
after_mark mark (Mark m ∷ rest) = if m == mark then Some rest else None
after_mark mark (Word w ∷ rest) = None
after_mark mark [] = None

-- What is read is a value, and the tokens after it.
abbrev pub ident_at : List Token → Option (List ℕ × List Token)
ident_at (Word w ∷ rest) = if is_ident w then Some (w, rest) else None
ident_at (Mark m ∷ rest) = None
ident_at [] = None

unfoldable pub empty_at : List Token → Option (Fragment × List Token)
empty_at tokens = do
  ended ← after_mark right_brace tokens
  Some (Empty, ended)

unfoldable pub proceed_at : List Token → Option (Fragment × List Token)
proceed_at tokens = do
  proceed ← after_word (codes "$proceed") tokens
  opened ← after_mark left_parenthesis proceed
  arguments ← after_word (codes "$$") opened
  closed ← after_mark right_parenthesis arguments
  stated ← after_mark semicolon closed
  ended ← after_mark right_brace stated
  Some (Proceed, ended)

-- a statement begins with a word
abbrev pub body_at : List Token → Option (Fragment × List Token)
body_at (Word w ∷ rest) = proceed_at (Word w ∷ rest)
body_at (Mark m ∷ rest) = empty_at (Mark m ∷ rest)
body_at [] = empty_at []

unfoldable pub fragment_at : List Token → Option (Fragment × List Token)
fragment_at tokens = do
  begun ← after_mark left_brace tokens
  body_at begun

unfoldable pub rule_at : List Token → Option (Rule × List Token)
rule_at tokens = do
  begun ← after_word (codes "call") tokens
  class_name ← ident_at begun
  dotted ← after_mark dot class_name.1
  member ← ident_at dotted
  fragment ← fragment_at member.1
  Some (record { class_name = class_name.0; member = member.0; fragment = fragment.0 }, fragment.1)

unfoldable pub plan_at : List Token → Option (MethodPlan × List Token)
plan_at tokens = do
  method ← after_word (codes "method") tokens
  void ← after_word (codes "void") method
  name ← ident_at void
  opened ← after_mark left_parenthesis name.1
  closed ← after_mark right_parenthesis opened
  begun ← after_mark left_brace closed
  rule ← rule_at begun
  ended ← after_mark right_brace rule.1
  Some (record { name = name.0; rules = rule.0 ∷ [] }, ended)

-- no tokens are left
abbrev pub end_at : List Token → Option (Unit {0})
end_at [] = Some tt
end_at (token ∷ tokens) = None

-- all of the tokens
unfoldable pub script_at : List Token → Option Script
script_at tokens = do
  class ← after_word (codes "class") tokens
  class_name ← ident_at class
  begun ← after_mark left_brace class_name.1
  plan ← plan_at begun
  closed ← after_mark right_brace plan.1
  ended ← end_at closed
  Some (record { class_name = class_name.0; plan = plan.0 })
