-- Files in memory.
use Rattle.std.specs.Prelude.{ℕ, ◌+◌, ◌-◌, ◌<◌, ◌≤◌, List, [], ◌∷◌, ◌++◌, length, Contains, refl}
use Rattle.std.specs.FinMap.{empty, insert}
use Rattle.std.specs.Coded.{Coded, code_by, coded×, coded_ℕ, coded_list}
use Rattle.je_base.specs.Count.{raised}
use Rattle.je_base.specs.Files.{Contents, coded_contents}

-- What files in memory hold, and what was done to them. Reads and writes are calls.
pub record FilesState : Type 0 where
  pub contents : Contents
  -- the paths that were read
  pub asked : List (List ℕ)
  pub reads : ℕ
  pub writes : ℕ
  pub calls : ℕ
  pub faults : ℕ
  -- the numbers of the calls that fail, from 1
  pub failing : List ℕ
  -- the room left: for so many writes, with so many bytes of paths and contents
  pub spare_writes : ℕ
  pub spare_bytes : ℕ

-- two numbers
abbrev Two : Type 0
Two = ℕ × ℕ

abbrev coded_two : Coded Two
coded_two = coded× coded_ℕ coded_ℕ

-- the six numbers: of reads and writes, of calls and faults, and the room
abbrev Numbers : Type 0
Numbers = Two × (Two × Two)

abbrev coded_numbers : Coded Numbers
coded_numbers = coded× coded_two (coded× coded_two coded_two)

abbrev numbers_of : FilesState → Numbers
numbers_of f = ((f.reads, f.writes), ((f.calls, f.faults), (f.spare_writes, f.spare_bytes)))

-- the paths and the calls that fail
abbrev coded_lists : Coded (List (List ℕ) × List ℕ)
coded_lists = coded× (coded_list (coded_list coded_ℕ)) (coded_list coded_ℕ)

-- the contents, the two lists, and the six numbers
abbrev pub coded_files : Coded FilesState
coded_files =
    code_by (Contents × ((List (List ℕ) × List ℕ) × Numbers))
    (coded× coded_contents (coded× coded_lists coded_numbers))
    (λ f. (f.contents, ((f.asked, f.failing), numbers_of f)))
    (λ p. record {
      contents = p.0;
      asked = p.1.0.0;
      failing = p.1.0.1;
      reads = p.1.1.0.0;
      writes = p.1.1.0.1;
      calls = p.1.1.1.0.0;
      faults = p.1.1.1.0.1;
      spare_writes = p.1.1.1.1.0;
      spare_bytes = p.1.1.1.1.1;
    })
    (λ _. refl)

-- no files, no room and no calls
abbrev pub no_files : FilesState
no_files = record {
  contents = empty;
  asked = [];
  reads = 0;
  writes = 0;
  calls = 0;
  faults = 0;
  failing = [];
  spare_writes = 0;
  spare_bytes = 0;
}

-- the number of the next call was given to fail
abbrev pub FailsNext : FilesState → Type 0
FailsNext files = Contains files.failing (raised files.calls)

-- the room suffices for a write
abbrev pub HasRoomFor : FilesState → List ℕ → List ℕ → Type 0
HasRoomFor files path bytes =
    (0 < files.spare_writes) × (length path + length bytes ≤ files.spare_bytes)

-- a read that answered
abbrev pub after_read : FilesState → List ℕ → FilesState
after_read files path = record files {
  asked = files.asked ++ path ∷ [];
  reads = raised files.reads;
  calls = raised files.calls;
}

-- a read that failed
abbrev pub after_failed_read : FilesState → List ℕ → FilesState
after_failed_read files path =
    record (after_read files path) { faults = raised files.faults }

-- a write that was done: it uses up one write and its bytes of the room
abbrev pub after_write : FilesState → List ℕ → List ℕ → FilesState
after_write files path bytes = record files {
  contents = insert files.contents path bytes;
  writes = raised files.writes;
  calls = raised files.calls;
  spare_writes = files.spare_writes - 1;
  spare_bytes = files.spare_bytes - (length path + length bytes);
}

-- a write that failed: the contents and the room are as they were
abbrev pub after_failed_write : FilesState → FilesState
after_failed_write files = record files {
  writes = raised files.writes;
  calls = raised files.calls;
  faults = raised files.faults;
}
