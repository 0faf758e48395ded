-- Where the class file of a name lies in a folder, and which names have none.
use Rattle.std.specs.Prelude.{ℕ, nat_eq, ◌||◌, Bool, true, false, List, [], ◌∷◌, ◌++◌, codes}
use Rattle.std.specs.Prelude.{Option, Some, None, if◌then◌else◌}
use Rattle.std.specs.List.{list_any, list_all}
use Rattle.std.specs.Option.{option_and_then}
use Rattle.std.specs.Str.{encode_utf8_all, bytes_eq}
use Rattle.je_base.specs.Encoding.{decoded}

-- what divides the parts of a name in internal form (JVMS SE 8 4.2.1), and the folders of a path
abbrev pub slash : ℕ
slash = 0x2f

-- the character that ends a path for the system
abbrev pub nul : ℕ
nul = 0

-- the bytes between slashes, where those of the first part begin with these
abbrev pub parts_from : List ℕ → List ℕ → List (List ℕ)
parts_from front [] = front ∷ []
parts_from front (b ∷ bytes) =
    if nat_eq b slash then front ∷ parts_from [] bytes else parts_from (front ++ b ∷ []) bytes

-- the bytes are one of these
abbrev pub is_among : List (List ℕ) → List ℕ → Bool
is_among texts bytes = list_any (λ text. bytes_eq bytes text) texts

-- no part of a name that has a file is empty, this folder, or the one above it
abbrev pub no_names : List (List ℕ)
no_names = [] ∷ codes "." ∷ codes ".." ∷ []

-- the part may name a folder or a file
abbrev pub is_part : List ℕ → Bool
is_part part = if is_among no_names part || list_any (nat_eq nul) part then false else true

-- each part of a name may name a folder or a file
abbrev pub has_parts : List ℕ → Bool
has_parts name = list_all is_part (parts_from [] name)

-- the name of a class in UTF-8, where it has parts that may name a file
abbrev pub with_parts : List ℕ → Option (List ℕ)
with_parts name = if has_parts name then Some name else None

-- The name of a class as paths have it. There is none where the bytes are no text, or a part of it
-- names no folder or file: such a name is not asked.
abbrev pub file_name : List ℕ → Option (List ℕ)
file_name name = option_and_then (λ string. with_parts (encode_utf8_all string)) (decoded name)

-- the class file of a name in a folder
abbrev pub path_in : List ℕ → List ℕ → List ℕ
path_in root name = root ++ (codes "/" ++ (name ++ codes ".class"))
