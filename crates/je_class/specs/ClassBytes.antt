-- A whole class file and the record that it spells.
use Rattle.std.specs.Prelude.{◌≡◌, ℕ, List}
use Rattle.je_class.specs.Class.{Class}
use Rattle.je_class.specs.FileParts.{spelled, class_parts, IsSound}

-- The bytes are the parts of the record, one after the other, and nothing else (JVMS 4.1). Each
-- number fits, and each index names what it has to.
pub record ClassBytes (bytes : List ℕ) (c : Class) : Type 0 where
  pub layout : bytes ≡ spelled (class_parts c)
  pub sound : IsSound c
