-- Tokens, names and types at the front of a list of tokens: what stands there, and what is left.
use Rattle.std.specs.Prelude.{◌≡◌, ℕ, zero, suc, List, [], ◌∷◌, codes}
use Rattle.je_base.specs.declared.pos.Pos.{Pos}
use Rattle.je_tokens.specs.declared.token.Token.{Token}
use Rattle.je_tokens.specs.declared.token.TokenKind.{TokenKind}
use Rattle.je_tokens.specs.declared.token.TokenKind.TheVariants as kind
use Rattle.je_tree.specs.declared.names.Ident.{Ident}
use Rattle.je_tree.specs.declared.names.Name.{Name}
use Rattle.je_tree.specs.declared.names.Prim.{Prim}
use Rattle.je_tree.specs.declared.names.Prim.TheVariants as prim
use Rattle.je_tree.specs.declared.names.Base.{Base}
use Rattle.je_tree.specs.declared.names.Base.TheVariants.{Prim as Primitive, Class}
use Rattle.je_tree.specs.declared.names.TypeName.{TypeName}
use Rattle.je_tree.specs.declared.names.Literal.{Literal}
use Rattle.je_tree.specs.declared.names.Literal.TheVariants as literal

-- the first token is of this kind
abbrev pub Sees : TokenKind → List Token → List Token → Type 0
Sees wanted tokens rest = (token : Token) × (tokens ≡ token ∷ rest) × (token.kind ≡ wanted)

-- and stands at this position
abbrev pub SeesAt : TokenKind → Pos → List Token → List Token → Type 0
SeesAt wanted pos tokens rest =
    (token : Token) × (tokens ≡ token ∷ rest) × (token.kind ≡ wanted) × (pos ≡ token.pos)

-- so many tokens of this kind
abbrev pub Repeats : TokenKind → ℕ → List Token → List Token → Type 0
Repeats wanted zero tokens rest = tokens ≡ rest
Repeats wanted (suc n) tokens rest =
    (m : List Token) × Sees wanted tokens m × Repeats wanted n m rest

abbrev pub Identifier : Ident → List Token → List Token → Type 0
Identifier ident tokens rest = SeesAt (kind.Ident ident.text) ident.pos tokens rest

-- Name = Ident { "." Ident }
abbrev pub reads_parts : List Ident → List Token → List Token → Type 0
reads_parts [] tokens rest = ⊥
reads_parts (ident ∷ []) tokens rest = Identifier ident tokens rest
reads_parts (ident ∷ next ∷ more) tokens rest =
    (m n : List Token) × Identifier ident tokens m × Sees (kind.Mark (codes ".")) m n
    × reads_parts (next ∷ more) n rest

abbrev pub reads_name : Name → List Token → List Token → Type 0
reads_name name tokens rest = reads_parts name.parts tokens rest

abbrev pub prim_word : Prim → List ℕ
prim_word prim.Boolean = codes "boolean"
prim_word prim.Byte = codes "byte"
prim_word prim.Char = codes "char"
prim_word prim.Short = codes "short"
prim_word prim.Int = codes "int"
prim_word prim.Long = codes "long"
prim_word prim.Float = codes "float"
prim_word prim.Double = codes "double"

-- Type0 = Prim | Name
abbrev pub reads_base : Base → List Token → List Token → Type 0
reads_base (Primitive p) tokens rest = Sees (kind.Reserved (prim_word p)) tokens rest
reads_base (Class name) tokens rest = reads_name name tokens rest

-- so many `[` `]`
abbrev pub reads_dimensions : ℕ → List Token → List Token → Type 0
reads_dimensions zero tokens rest = tokens ≡ rest
reads_dimensions (suc n) tokens rest =
    (m k : List Token) × Sees (kind.Mark (codes "[")) tokens m × Sees (kind.Mark (codes "]")) m k
    × reads_dimensions n k rest

-- Type = ( Prim | Name ) { "[" "]" }
abbrev pub reads_type : TypeName → List Token → List Token → Type 0
reads_type type_name tokens rest =
    (m : List Token) × reads_base type_name.base tokens m
    × reads_dimensions type_name.dimensions m rest

-- the token of a literal
abbrev pub literal_kind : Literal → TokenKind
literal_kind (literal.Whole value long decimal) = kind.Whole value long decimal
literal_kind (literal.Character code) = kind.Character code
literal_kind (literal.Content text) = kind.Literal text
literal_kind literal.True = kind.Reserved (codes "true")
literal_kind literal.False = kind.Reserved (codes "false")
literal_kind literal.Null = kind.Reserved (codes "null")
