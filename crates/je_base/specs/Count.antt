-- Numbers that count calls and faults.
use Rattle.std.specs.Prelude.{◌≡◌, ℕ, ◌+◌, ◌<◌, min, ◌⊎◌}

-- the last value of a count, that of 64 bits
abbrev pub last : ℕ
last = 0xffff_ffff_ffff_ffff

-- one more, or the last value where the count stands there
abbrev pub raised : ℕ → ℕ
raised n = min (n + 1) last

-- A fault is on record: the count of faults rose, or stands at its last value.
abbrev pub HasFault : ℕ → ℕ → Type 0
HasFault old new = (old < new) ⊎ (new ≡ last)
