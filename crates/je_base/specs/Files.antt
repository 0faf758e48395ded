-- What files hold, and what reads and writes do to that.
use Rattle.std.specs.Prelude.{◌≡◌, ◌≢◌, ℕ, List, [], ◌∷◌, ◌++◌, take}
use Rattle.std.specs.Prelude.{Option, Some, None, Result, Err, ◌⊎◌}
use Rattle.std.specs.Option.{option_map}
use Rattle.std.specs.Global.{Vec}
use Rattle.std.specs.Ordering.{nat_cmp}
use Rattle.std.specs.Cmp.Lexicographic.{slice_cmp}
use Rattle.std.specs.FinMap.{FinMap, get, code}
use Rattle.std.specs.Coded.{Coded, coded_ℕ, coded_list}
use Rattle.je_base.specs.Count.{raised}
use Rattle.je_base.specs.declared.stop.FileStop.{FileStop}
use Rattle.je_base.specs.declared.stop.FileStop.TheVariants as stop

-- the bytes at each path at which a file lies; a path is the bytes of its text
abbrev pub Contents : Type 0
Contents = FinMap (slice_cmp nat_cmp) (List ℕ)

-- contents as a list of paths and bytes
abbrev pub coded_contents : Coded Contents
coded_contents = code (coded_list coded_ℕ) (coded_list coded_ℕ)

-- A read answers the first `limit` bytes of what lies at the path, where the contents are told.
abbrev pub Tells : Option Contents → List ℕ → ℕ → Option (Vec ℕ) → Type 0
Tells None path limit found = Unit {0}
Tells (Some contents) path limit found =
    option_map (λ v. v.items) found ≡ option_map (take limit) (get contents path)

-- The path is one more of the paths asked, where they are told, and the number of reads rose.
abbrev pub IsAsked : List ℕ → Option (List (List ℕ)) → ℕ → Option (List (List ℕ)) → ℕ → Type 0
IsAsked path asked_old reads_old asked_new reads_new =
    (asked_new ≡ option_map (λ asked. asked ++ path ∷ []) asked_old)
    × (reads_new ≡ raised reads_old)

-- A read is asked. One that ends for want of memory may not be, and then paths and number are as
-- they were.
abbrev pub AsksAndCounts :
    {T : Type 0} → List ℕ → Result T FileStop → Option (List (List ℕ)) → ℕ
    → Option (List (List ℕ)) → ℕ → Type 0
AsksAndCounts path (Err stop.Memory) asked_old reads_old asked_new reads_new =
    ((asked_new ≡ asked_old) × (reads_new ≡ reads_old))
    ⊎ IsAsked path asked_old reads_old asked_new reads_new
AsksAndCounts path _ asked_old reads_old asked_new reads_new =
    IsAsked path asked_old reads_old asked_new reads_new

-- what lies at every other path is as it was
abbrev pub KeepsOthers : List ℕ → Option Contents → Option Contents → Type 0
KeepsOthers path (Some old) (Some new) =
    (other : List ℕ) → other ≢ path → get new other ≡ get old other
KeepsOthers path None None = Unit {0}
KeepsOthers path _ _ = ⊥
