-- Modified UTF-8, as the bytes of a CONSTANT_Utf8_info have it (JVMS 4.4.7).
use Rattle.std.specs.Prelude.{◌≡◌, ℕ, ◌≤◌, Bool, nat_eq, List, [], ◌∷◌}
use Rattle.std.specs.List.{flat_map, AllByRecursion}
use Rattle.std.specs.Cmp.Lexicographic.{pointwise}

-- a byte that is a unit by itself
abbrev pub IsSingle : ℕ → Type 0
IsSingle b = (0x01 ≤ b) × (b ≤ 0x7f)

-- the first byte of two, whose three high bits are 110, and of three, whose four are 1110
abbrev pub IsFirstOfTwo : ℕ → Type 0
IsFirstOfTwo b = (0xc0 ≤ b) × (b ≤ 0xdf)

abbrev pub IsFirstOfThree : ℕ → Type 0
IsFirstOfThree b = (0xe0 ≤ b) × (b ≤ 0xef)

-- a second or third byte of a unit, whose two high bits are 10
abbrev pub IsContinuation : ℕ → Type 0
IsContinuation b = (0x80 ≤ b) × (b ≤ 0xbf)

-- One UTF-16 code unit, as one, two or three bytes. Unpaired surrogates are units too.
abbrev pub IsUnit : List ℕ → Type 0
IsUnit (a ∷ []) = IsSingle a
IsUnit (a ∷ b ∷ []) = IsFirstOfTwo a × IsContinuation b
IsUnit (a ∷ b ∷ c ∷ []) = IsFirstOfThree a × IsContinuation b × IsContinuation c
IsUnit _ = ⊥

-- the bytes are units, one after the other
abbrev pub IsModifiedUtf8 : List ℕ → Type 0
IsModifiedUtf8 bytes =
    (units : List (List ℕ)) × AllByRecursion IsUnit units × (bytes ≡ flat_map (λ unit. unit) units)

-- texts are equal where their bytes are
abbrev pub is_same_text : List ℕ → List ℕ → Bool
is_same_text a b = pointwise nat_eq a b
