-- Serves private functions: what an index of methods answers once one more is noted.
use Rattle.std.specs.Prelude.{ℕ, ◌&&◌, if◌then◌else◌, List, Option, Some, None}
use Rattle.je_base.specs.Text.{is_same_text}

-- what was there, or the place that is noted
abbrev pub or_at : Option ℕ → ℕ → Option ℕ
or_at (Some i) at = Some i
or_at None at = Some at

-- the same as before, but for this name and descriptor, where nothing was there
abbrev pub noted : (List ℕ → List ℕ → Option ℕ) → List ℕ → List ℕ → ℕ → List ℕ → List ℕ → Option ℕ
noted found name descriptor at n d =
    if is_same_text name n && is_same_text descriptor d then or_at (found name descriptor) at
    else found n d
