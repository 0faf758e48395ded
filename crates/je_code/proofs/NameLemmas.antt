-- The names of tables, which are ASCII, and tables of a name.
use Rattle.std.proofs.Common.{◌≡◌, ℕ, Bool, true, false, ◌&&◌, eqb, leb, leb-true, List, [], ◌∷◌, ◌++◌, length, map, refl, ap, ◌∙◌}
use Rattle.std.specs.List.{AllByRecursion, list_all, flat_map}
use Rattle.je_base.specs.Text.{IsUnit, IsModifiedUtf8}
use Rattle.je_code.specs.declared.named.Named.{Named}
use Rattle.je_code.specs.Code.{Part, spelled}
use Rattle.je_base.specs.Parts.{table_parts}
use Rattle.je_code.specs.Named.{table_of}

-- ---- texts

abbrev pub is_single : ℕ → Bool
is_single b = leb 1 b && leb b 127

both : (a b : Bool) → a && b ≡ true → (a ≡ true) × (b ≡ true)
both true true e = (refl, refl)
both true false e = absurd cc
both false b e = absurd cc

singles : List ℕ → List (List ℕ)
singles [] = []
singles (b ∷ bs) = (b ∷ []) ∷ singles bs

units : (bs : List ℕ) → list_all is_single bs ≡ true → AllByRecursion IsUnit (singles bs)
unfolding singles
units [] e = tt
units (b ∷ bs) e =
    let here = both (is_single b) (list_all is_single bs) e in
    let range = both (leb 1 b) (leb b 127) here.0 in
    ((leb-true 1 b range.0, leb-true b 127 range.1), units bs here.1)

joined : (bs : List ℕ) → bs ≡ flat_map (λ unit. unit) (singles bs)
unfolding singles
joined [] = refl
joined (b ∷ bs) = ap (λ (t : List ℕ). b ∷ t) (joined bs)

-- bytes of ASCII but for NUL are a text
pub ascii_text : (bs : List ℕ) → list_all is_single bs ≡ true → IsModifiedUtf8 bs
ascii_text bs e = (singles bs, units bs e, joined bs)

-- ---- tables

pub table_of-some : {A B : Type 0} (name : List ℕ) (parts : B → List Part) (f : A → B) (rows : List A) → eqb (length rows) 0 ≡ false
    → table_of name parts (map f rows) ≡ record { name = name; bytes = spelled (table_parts parts (map f rows)) } ∷ []
table_of-some name parts f [] some = absurd cc
table_of-some name parts f (row ∷ rows) some = refl

-- an attribute of this name is put behind others
pub put_one : (old new : List Named) (n : Named) (name bytes : List ℕ) → new ≡ old ++ n ∷ [] → n.name ≡ name → n.bytes ≡ bytes → new ≡ old ++ record { name = name; bytes = bytes } ∷ []
put_one old new n name bytes e f g =
    let same : record { name = n.name; bytes = n.bytes } ≡ record { name = name; bytes = bytes } = cc in
    e ∙ ap (λ (m : Named). old ++ m ∷ []) same
