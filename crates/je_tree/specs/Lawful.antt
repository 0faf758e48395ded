-- Lawful fragments: what holds of a tree that a text has, and is asked of one that is made.
use Rattle.std.specs.Prelude.{◌≡◌, ◌≢◌, ℕ, ◌+◌, ◌≤◌, List, [], ◌∷◌, length, Bool, true, false}
use Rattle.std.specs.Prelude.{Option, Some, None}
use Rattle.std.specs.List.{AllByRecursion}
use Rattle.je_base.specs.Text.{IsModifiedUtf8}
use Rattle.je_tokens.specs.Characters.{begins_name, is_word}
use Rattle.je_tokens.specs.Numbers.{greatest}
use Rattle.je_tokens.specs.Words.{is_reserved}
use Rattle.je_tree.specs.declared.names.Ident.{Ident}
use Rattle.je_tree.specs.declared.names.Literal.{Literal}
use Rattle.je_tree.specs.declared.names.Literal.TheVariants as of_token
use Rattle.je_tree.specs.declared.operators.UnaryOp.{UnaryOp}
use Rattle.je_tree.specs.declared.operators.UnaryOp.TheVariants as unary_op
use Rattle.je_tree.specs.declared.names.Name.{Name}
use Rattle.je_tree.specs.declared.names.TypeName.{TypeName}
use Rattle.je_tree.specs.declared.operators.CastTo.{CastTo}
use Rattle.je_tree.specs.declared.operators.CastTo.TheVariants as to
use Rattle.je_tree.specs.Tree.{Expr, literal, this, dollar, paren, proceed, call, name}
use Rattle.je_tree.specs.Tree.{class_field, class_call, name_call, super_call, new_object}
use Rattle.je_tree.specs.Tree.{new_array, new_items, field, method, index, step, unary, cast}
use Rattle.je_tree.specs.Tree.{binary, instance_of, choose, assign}
use Rattle.je_tree.specs.Tree.{Exprs, no_exprs, more_exprs, Args, no_args, more_args}
use Rattle.je_tree.specs.Tree.{all_parameters, Init, no_init, value, items}
use Rattle.je_tree.specs.Tree.{Variable, Local}
use Rattle.je_tree.specs.Tree.{ForInit, declares, starts, Stmt, block, empty, local, expr}
use Rattle.je_tree.specs.Tree.{if_only, if_else, while_loop, do_loop, for_loop, returns, throws}
use Rattle.je_tree.specs.Tree.{breaks, continues, tries, Block, braces, Stmts, no_stmts, more_stmts}
use Rattle.je_tree.specs.Tree.{Catches, no_catches, more_catches}
use Rattle.je_tree.specs.FragmentGrammar.{is_local, count_of, HasCatch}
use Rattle.je_tree.specs.Names.{dotted_length, block_names}

-- the bytes that a text of a class file may have (JVMS 4.4.7)
abbrev pub most_bytes : ℕ
most_bytes = 65535

-- a letter of ASCII or `_`, then letters, digits, `_` and `$`
abbrev pub IsWord : List ℕ → Type 0
IsWord [] = ⊥
IsWord (c ∷ more) = (begins_name c ≡ true) × AllByRecursion (λ d. is_word d ≡ true) more

-- an identifier, which is no reserved word (JLS 3.8, 3.9)
abbrev pub IsIdentifier : List ℕ → Type 0
IsIdentifier text = IsWord text × (is_reserved text ≡ false) × (length text ≤ most_bytes)

abbrev pub IsLawfulIdent : Ident → Type 0
IsLawfulIdent ident = IsIdentifier ident.text

-- one identifier at least, and not too many bytes with the dots
abbrev pub IsLawfulName : Name → Type 0
IsLawfulName n =
    (n.parts ≢ []) × AllByRecursion IsLawfulIdent n.parts × (dotted_length n.parts ≤ most_bytes)

-- A literal is that of a token, which may stand behind `-`. A decimal number is at most the
-- greatest of its type, or the next one behind `-`; others fill the bits of their type.
abbrev pub IsLawfulLiteral : Bool → Literal → Type 0
IsLawfulLiteral negative (of_token.Whole number long decimal) =
    number ≤ greatest decimal long negative
IsLawfulLiteral negative (of_token.Character code) = code ≤ most_bytes
IsLawfulLiteral negative (of_token.Content text) = IsModifiedUtf8 text × (length text ≤ most_bytes)
IsLawfulLiteral negative of_token.True = Unit {0}
IsLawfulLiteral negative of_token.False = Unit {0}
IsLawfulLiteral negative of_token.Null = Unit {0}

-- an operand's first token stands behind a prefix `-`
abbrev pub negates : UnaryOp → Bool
negates unary_op.Minus = true
negates _ = false

abbrev pub most_dimensions : ℕ
most_dimensions = 255

abbrev pub HasDimensions : TypeName → Type 0
HasDimensions type_name = type_name.dimensions ≤ most_dimensions

abbrev pub IsLawfulCast : CastTo → Type 0
IsLawfulCast (to.Type type_name) = HasDimensions type_name
IsLawfulCast to.Result = Unit {0}
IsLawfulCast to.Wrapper = Unit {0}

-- Names are asked apart, all of a fragment at once. The first token of an expression stands behind
-- a prefix `-` or not, and what a suffix is applied to begins with the same token.
abbrev mutual
  pub IsLawfulExpr : Bool → Expr → Type 0
  IsLawfulExpr negative (literal pos v) = IsLawfulLiteral negative v
  IsLawfulExpr negative (this pos) = Unit {0}
  IsLawfulExpr negative (dollar pos text) = Unit {0}
  IsLawfulExpr negative (paren pos more inner) = IsLawfulExpr false inner
  IsLawfulExpr negative (proceed pos args) = AreLawfulArgs args
  IsLawfulExpr negative (call ident args) = IsLawfulIdent ident × AreLawfulArgs args
  IsLawfulExpr negative (name n) = Unit {0}
  IsLawfulExpr negative (class_field n ident) = IsLawfulIdent ident
  IsLawfulExpr negative (class_call n ident args) = IsLawfulIdent ident × AreLawfulArgs args
  IsLawfulExpr negative (name_call n ident args) = IsLawfulIdent ident × AreLawfulArgs args
  IsLawfulExpr negative (super_call pos ident args) = IsLawfulIdent ident × AreLawfulArgs args
  IsLawfulExpr negative (new_object pos n args) = AreLawfulArgs args
  IsLawfulExpr negative (new_array pos b sizes more) =
      (sizes ≢ no_exprs) × AreLawfulExprs sizes × (count_of sizes + more ≤ most_dimensions)
  IsLawfulExpr negative (new_items pos b content) = AreLawfulExprs content
  IsLawfulExpr negative (field left ident) = IsLawfulExpr negative left × IsLawfulIdent ident
  IsLawfulExpr negative (method left ident args) =
      IsLawfulExpr negative left × IsLawfulIdent ident × AreLawfulArgs args
  IsLawfulExpr negative (index left at) = IsLawfulExpr negative left × IsLawfulExpr false at
  IsLawfulExpr negative (step left op) = IsLawfulExpr negative left
  IsLawfulExpr negative (unary pos op operand) = IsLawfulExpr (negates op) operand
  IsLawfulExpr negative (cast pos target operand) =
      IsLawfulCast target × IsLawfulExpr false operand
  IsLawfulExpr negative (binary left op right) =
      IsLawfulExpr false left × IsLawfulExpr false right
  IsLawfulExpr negative (instance_of left type_name) =
      IsLawfulExpr false left × HasDimensions type_name
  IsLawfulExpr negative (choose condition first second) =
      IsLawfulExpr false condition × IsLawfulExpr false first × IsLawfulExpr false second
  IsLawfulExpr negative (assign left op right) =
      IsLawfulExpr false left × IsLawfulExpr false right

  pub AreLawfulExprs : Exprs → Type 0
  AreLawfulExprs no_exprs = Unit {0}
  AreLawfulExprs (more_exprs e more) = IsLawfulExpr false e × AreLawfulExprs more

  pub AreLawfulArgs : Args → Type 0
  AreLawfulArgs no_args = Unit {0}
  AreLawfulArgs (more_args e more) = IsLawfulExpr false e × AreLawfulArgs more
  AreLawfulArgs (all_parameters pos more) = AreLawfulArgs more

-- Braces want an array of one dimension.
abbrev pub IsLawfulInit : ℕ → Init → Type 0
IsLawfulInit dimensions no_init = Unit {0}
IsLawfulInit dimensions (value e) = IsLawfulExpr false e
IsLawfulInit dimensions (items pos content) = (dimensions ≡ 1) × AreLawfulExprs content

abbrev pub IsLawfulVariable : ℕ → Variable → Type 0
IsLawfulVariable dimensions v = IsLawfulIdent v.ident × IsLawfulInit dimensions v.init

abbrev pub IsLawfulLocal : Local → Type 0
IsLawfulLocal declared =
    HasDimensions declared.type_name × (declared.variables ≢ [])
    × AllByRecursion (IsLawfulVariable declared.type_name.dimensions) declared.variables

abbrev pub IsLawfulForInit : ForInit → Type 0
IsLawfulForInit (declares declared) = IsLawfulLocal declared
IsLawfulForInit (starts exprs) = AreLawfulExprs exprs

abbrev pub IsLawfulOptional : Option Expr → Type 0
IsLawfulOptional None = Unit {0}
IsLawfulOptional (Some e) = IsLawfulExpr false e

-- A declaration stands directly in a block alone.
abbrev mutual
  pub IsLawfulStmt : Stmt → Type 0
  IsLawfulStmt (block body) = IsLawfulBlock body
  IsLawfulStmt (empty pos) = Unit {0}
  IsLawfulStmt (local declared) = IsLawfulLocal declared
  IsLawfulStmt (expr e) = IsLawfulExpr false e
  IsLawfulStmt (if_only pos condition then) =
      IsLawfulExpr false condition × IsLawfulStmt then × (is_local then ≡ false)
  IsLawfulStmt (if_else pos condition then other) =
      IsLawfulExpr false condition × IsLawfulStmt then × (is_local then ≡ false)
      × IsLawfulStmt other × (is_local other ≡ false)
  IsLawfulStmt (while_loop pos condition body) =
      IsLawfulExpr false condition × IsLawfulStmt body × (is_local body ≡ false)
  IsLawfulStmt (do_loop pos body condition) =
      IsLawfulStmt body × (is_local body ≡ false) × IsLawfulExpr false condition
  IsLawfulStmt (for_loop pos init condition steps body) =
      IsLawfulForInit init × IsLawfulOptional condition × AreLawfulExprs steps
      × IsLawfulStmt body × (is_local body ≡ false)
  IsLawfulStmt (returns pos e) = IsLawfulOptional e
  IsLawfulStmt (throws pos e) = IsLawfulExpr false e
  IsLawfulStmt (breaks pos) = Unit {0}
  IsLawfulStmt (continues pos) = Unit {0}
  IsLawfulStmt (tries pos body catches) =
      IsLawfulBlock body × HasCatch catches × AreLawfulCatches catches

  pub IsLawfulBlock : Block → Type 0
  IsLawfulBlock (braces pos stmts) = AreLawfulStmts stmts

  pub AreLawfulStmts : Stmts → Type 0
  AreLawfulStmts no_stmts = Unit {0}
  AreLawfulStmts (more_stmts stmt more) = IsLawfulStmt stmt × AreLawfulStmts more

  pub AreLawfulCatches : Catches → Type 0
  AreLawfulCatches no_catches = Unit {0}
  AreLawfulCatches (more_catches pos class variable body more) =
      IsLawfulIdent variable × IsLawfulBlock body × AreLawfulCatches more

-- a lawful fragment, of which this is the tree
abbrev pub IsLawful : Block → Type 0
IsLawful body = IsLawfulBlock body × AllByRecursion IsLawfulName (block_names body)
