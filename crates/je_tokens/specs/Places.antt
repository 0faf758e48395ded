-- Places in a text: the offset in bytes, and the position by lines and characters.
use Rattle.std.specs.Prelude.{ℕ, ◌+◌, ◌-◌, ◌^◌, min, List, ◌==◌, if◌then◌else◌}
use Rattle.std.specs.List.{fold, sum_by}
use Rattle.std.specs.Char.{len_utf8}
use Rattle.je_base.specs.declared.pos.Pos.{Pos}
use Rattle.je_tokens.specs.declared.places.Place.{Place}
use Rattle.je_tokens.specs.Characters.{line_feed}

-- one more, and the last value of 32 bits stays
abbrev pub raised : ℕ → ℕ
raised n = min (n + 1) (2 ^ 32 - 1)

abbrev pub first_pos : Pos
first_pos = record { line = 1; column = 1 }

-- the position behind a character: a line ends at a line feed
abbrev pub pos_behind : Pos → ℕ → Pos
pos_behind pos c =
    if c == line_feed then record { line = raised pos.line; column = 1 }
    else record { line = pos.line; column = raised pos.column }

-- the position behind all of a text
abbrev pub pos_after : List ℕ → Pos
pos_after text = fold pos_behind first_pos text

abbrev pub first_place : Place
first_place = record { offset = 0; pos = first_pos }

abbrev pub place_behind : Place → ℕ → Place
place_behind place c = record {
  offset = place.offset + len_utf8 c;
  pos = pos_behind place.pos c;
}

-- the place behind characters, from a place on
abbrev pub place_after : Place → List ℕ → Place
place_after place text = fold place_behind place text

-- the bytes of a text in UTF-8
abbrev pub byte_count : List ℕ → ℕ
byte_count text = sum_by len_utf8 text
