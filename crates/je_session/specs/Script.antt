-- The scripts that are read so far.
use Rattle.std.specs.Prelude.{◌≡◌, ℕ, ◌⊎◌, List, [], ◌∷◌, ◌++◌, codes, length, Contains}
use Rattle.std.specs.List.{flat_map, AllByRecursion}
use Rattle.je_base.specs.Ascii.{left_parenthesis, right_parenthesis, semicolon, dot}
use Rattle.je_session.specs.declared.plan.Fragment.{Fragment}
use Rattle.je_session.specs.declared.plan.Fragment.TheVariants.{Empty, Proceed}
use Rattle.je_session.specs.declared.plan.Rule.{Rule}
use Rattle.je_session.specs.declared.plan.Script.{Script}
use Rattle.je_session.specs.declared.script.token.Token.{Token}
use Rattle.je_session.specs.declared.script.token.Token.TheVariants.{Word, Mark}
use Rattle.je_session.specs.Tokens.{left_brace, right_brace, underscore, IsLetter, AreTokens}

-- the reserved words of Java SE 8 (JLS 3.9), with `true`, `false` and `null`
unfoldable pub reserved_words : List (List ℕ)
reserved_words =
    codes "abstract" ∷ codes "assert" ∷ codes "boolean" ∷ codes "break" ∷ codes "byte"
    ∷ codes "case" ∷ codes "catch" ∷ codes "char" ∷ codes "class" ∷ codes "const" ∷ codes "continue"
    ∷ codes "default" ∷ codes "do" ∷ codes "double" ∷ codes "else" ∷ codes "enum" ∷ codes "extends"
    ∷ codes "final" ∷ codes "finally" ∷ codes "float" ∷ codes "for" ∷ codes "goto" ∷ codes "if"
    ∷ codes "implements" ∷ codes "import" ∷ codes "instanceof" ∷ codes "int" ∷ codes "interface"
    ∷ codes "long" ∷ codes "native" ∷ codes "new" ∷ codes "package" ∷ codes "private"
    ∷ codes "protected" ∷ codes "public" ∷ codes "return" ∷ codes "short" ∷ codes "static"
    ∷ codes "strictfp" ∷ codes "super" ∷ codes "switch" ∷ codes "synchronized" ∷ codes "this"
    ∷ codes "throw" ∷ codes "throws" ∷ codes "transient" ∷ codes "try" ∷ codes "void"
    ∷ codes "volatile" ∷ codes "while" ∷ codes "true" ∷ codes "false" ∷ codes "null" ∷ []

abbrev pub BeginsName : List ℕ → Type 0
BeginsName [] = ⊥
BeginsName (b ∷ bytes) = IsLetter b ⊎ (b ≡ underscore)

-- a word that is a name: it begins with a letter or `_` and is not reserved
abbrev pub IsIdent : List ℕ → Type 0
IsIdent w = BeginsName w × (Contains reserved_words w → ⊥)

abbrev pub fragment_tokens : Fragment → List Token
fragment_tokens Empty = Mark left_brace ∷ Mark right_brace ∷ []
fragment_tokens Proceed =
    Mark left_brace ∷ Word (codes "$proceed") ∷ Mark left_parenthesis ∷ Word (codes "$$")
    ∷ Mark right_parenthesis ∷ Mark semicolon ∷ Mark right_brace ∷ []

-- `call CLASS.METHOD FRAGMENT`
abbrev pub rule_tokens : Rule → List Token
rule_tokens rule =
    Word (codes "call") ∷ Word rule.class_name ∷ Mark dot ∷ Word rule.member
    ∷ fragment_tokens rule.fragment

-- `class CLASS { method void METHOD() { RULES } }`
abbrev pub script_tokens : Script → List Token
script_tokens script =
    Word (codes "class") ∷ Word script.class_name ∷ Mark left_brace
    ∷ Word (codes "method") ∷ Word (codes "void") ∷ Word script.plan.name
    ∷ Mark left_parenthesis ∷ Mark right_parenthesis ∷ Mark left_brace
    ∷ (flat_map rule_tokens script.plan.rules ++ Mark right_brace ∷ Mark right_brace ∷ [])

pub record IsRule (rule : Rule) : Type 0 where
  pub class_name : IsIdent rule.class_name
  pub member : IsIdent rule.member

-- The text is the script's tokens, its names are names, and it has one rule.
pub record ScriptForm (text : List ℕ) (script : Script) : Type 0 where
  pub tokens : AreTokens text (script_tokens script)
  pub class_name : IsIdent script.class_name
  pub method_name : IsIdent script.plan.name
  pub one_rule : length script.plan.rules ≡ 1
  pub rules : AllByRecursion IsRule script.plan.rules
