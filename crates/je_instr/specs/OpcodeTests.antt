-- Serves private functions: which opcodes stand in a table, and how texts are tested.
use Rattle.std.specs.Prelude.{◌≡◌, ℕ, zero, suc, Bool, ◌||◌, List, [], ◌∷◌, ◌==◌}
use Rattle.std.specs.Prelude.{if◌then◌else◌}
use Rattle.je_desc.specs.Descriptor.{FieldDescriptor}
use Rattle.je_instr.specs.Rows.{is_within}

abbrev pub local_test : ℕ → Bool
local_test n = is_within 21 25 n || is_within 54 58 n

abbrev pub condition_test : ℕ → Bool
condition_test n = is_within 153 166 n || is_within 198 199 n

abbrev pub field_test : ℕ → Bool
field_test n = is_within 178 181 n

abbrev pub array_test : ℕ → Bool
array_test n = is_within 4 11 n

-- how many `[` stand in front
abbrev pub brackets : List ℕ → ℕ
brackets [] = zero
brackets (b ∷ text) = if b == 91 then suc (brackets text) else zero

-- the text begins as the descriptor of an array
abbrev pub IsArrayText : List ℕ → Type 0
IsArrayText text = (rest : List ℕ) × (text ≡ 91 ∷ rest)

-- it is the descriptor of an array
abbrev pub IsArrayType : List ℕ → Type 0
IsArrayType text = IsArrayText text × FieldDescriptor text
