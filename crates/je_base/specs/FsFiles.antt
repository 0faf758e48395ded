-- The real file system.
use Rattle.std.specs.Prelude.{ℕ}

-- What was done to the files, of which nothing else is told.
pub record FilesCounts : Type 0 where
  pub reads : ℕ
  pub writes : ℕ
  pub faults : ℕ
