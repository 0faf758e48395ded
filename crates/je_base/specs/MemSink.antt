-- A sink in memory.
use Rattle.std.specs.Prelude.{ℕ, ◌-◌, ◌≤◌, List, [], ◌++◌, length, Contains, refl}
use Rattle.std.specs.Coded.{Coded, code_by, coded×, coded_ℕ, coded_list}
use Rattle.je_base.specs.Count.{raised}

-- What a sink in memory took, and what was done to it.
pub record SinkState : Type 0 where
  pub bytes : List ℕ
  pub puts : ℕ
  pub faults : ℕ
  -- the numbers of the puts that fail, from 1
  pub failing : List ℕ
  -- the room left, in bytes
  pub spare : ℕ

-- the two lists
abbrev coded_lists : Coded (List ℕ × List ℕ)
coded_lists = coded× (coded_list coded_ℕ) (coded_list coded_ℕ)

-- the three numbers
abbrev coded_numbers : Coded (ℕ × (ℕ × ℕ))
coded_numbers = coded× coded_ℕ (coded× coded_ℕ coded_ℕ)

-- the two lists and the three numbers
abbrev pub coded_sink : Coded SinkState
coded_sink =
    code_by ((List ℕ × List ℕ) × (ℕ × (ℕ × ℕ)))
    (coded× coded_lists coded_numbers)
    (λ s. ((s.bytes, s.failing), (s.puts, (s.faults, s.spare))))
    (λ p. record {
      bytes = p.0.0;
      failing = p.0.1;
      puts = p.1.0;
      faults = p.1.1.0;
      spare = p.1.1.1;
    })
    (λ _. refl)

-- nothing was put, and there is no room
abbrev pub empty_sink : SinkState
empty_sink = record { bytes = []; puts = 0; faults = 0; failing = []; spare = 0 }

-- the number of the next put was given to fail
abbrev pub FailsNext : SinkState → Type 0
FailsNext sink = Contains sink.failing (raised sink.puts)

-- the room suffices for a piece
abbrev pub HasRoomFor : SinkState → List ℕ → Type 0
HasRoomFor sink piece = length piece ≤ sink.spare

-- a put that was done: it uses up its length of the room
abbrev pub after_put : SinkState → List ℕ → SinkState
after_put sink piece = record sink {
  bytes = sink.bytes ++ piece;
  puts = raised sink.puts;
  spare = sink.spare - length piece;
}

-- a put that failed: the bytes and the room are as they were
abbrev pub after_failed_put : SinkState → SinkState
after_failed_put sink = record sink { puts = raised sink.puts; faults = raised sink.faults }
