-- The words of the command line as their bytes.
use Rattle.std.specs.Prelude.{ℕ, List, map, String, string_bytes}

abbrev pub texts : {Z : Type 0} → List (String Z) → List (List ℕ)
texts words = map string_bytes words
