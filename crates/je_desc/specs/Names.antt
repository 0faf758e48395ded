-- Names as class files spell them (JVMS SE 8, 4.2.1).
use Rattle.std.specs.Prelude.{◌≢◌, ℕ, List, [], All}
use Rattle.je_base.specs.Ascii.{dot, semicolon, left_bracket}

-- a byte of a class name: not `.`, `;` or `[`
abbrev pub IsNameByte : ℕ → Type 0
IsNameByte b = (b ≢ dot) × (b ≢ semicolon) × (b ≢ left_bracket)

-- a class or interface name in internal form that is no array's: one or more such bytes, wherever
-- `/` stands
abbrev pub IsClassName : List ℕ → Type 0
IsClassName name = (name ≢ []) × All IsNameByte name
