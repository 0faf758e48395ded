-- Serves private functions: files in one stretch of bytes, each write behind those before it.
use Rattle.std.specs.Prelude.{ℕ, ◌+◌, ◌-◌, ◌<◌, ◌≤◌, List, [], ◌∷◌, length, refl}
use Rattle.std.specs.List.{slice_range}
use Rattle.std.specs.FinMap.{insert}
use Rattle.std.specs.Coded.{Coded, code_by, coded×, coded_ℕ}
use Rattle.je_base.specs.Files.{Contents, coded_contents}
use Rattle.je_base.specs.declared.store.Span.{Span}

-- what files hold, and room for so many further writes, whose paths and contents have so many bytes
pub record Room : Type 0 where
  pub contents : Contents
  pub writes : ℕ
  pub bytes : ℕ

-- the contents and the two numbers
abbrev pub coded_room : Coded Room
coded_room =
    code_by (Contents × (ℕ × ℕ))
    (coded× coded_contents (coded× coded_ℕ coded_ℕ))
    (λ r. (r.contents, (r.writes, r.bytes)))
    (λ p. record { contents = p.0; writes = p.1.0; bytes = p.1.1 })
    (λ _. refl)

-- the path of one write
abbrev pub path_at : List ℕ → Span → List ℕ
path_at bytes span = slice_range bytes span.start span.middle

-- the content of one write
abbrev pub content_at : List ℕ → Span → List ℕ
content_at bytes span = slice_range bytes span.middle span.end

-- the contents after further writes, in their order
abbrev pub contents_after : List ℕ → Contents → List Span → Contents
contents_after bytes files [] = files
contents_after bytes files (span ∷ spans) =
    contents_after bytes (insert files (path_at bytes span) (content_at bytes span)) spans

-- the span lies in the first so many bytes
pub record IsWithin (limit : ℕ) (span : Span) : Type 0 where
  pub path : span.start ≤ span.middle
  pub content : span.middle ≤ span.end
  pub bytes : span.end ≤ limit

-- where a write lies that is put behind these bytes
abbrev pub span_behind : List ℕ → List ℕ → List ℕ → Span
span_behind bytes path content = record {
  start = length bytes;
  middle = length bytes + length path;
  end = length bytes + length path + length content;
}

-- the room suffices for a write
pub record HasRoom (room : Room) (path content : List ℕ) : Type 0 where
  pub writes : 0 < room.writes
  pub bytes : length path + length content ≤ room.bytes

-- a write in the room
abbrev pub after_put : Room → List ℕ → List ℕ → Room
after_put room path content = record {
  contents = insert room.contents path content;
  writes = room.writes - 1;
  bytes = room.bytes - (length path + length content);
}
