-- Answers that want of memory may replace.
use Rattle.std.specs.Prelude.{◌≡◌, ◌⊎◌, ◌<◌, ◌≤◌, ℕ, List, length, Result, Ok, Err}
use Rattle.je_tokens.specs.declared.syntax.SyntaxKind.{SyntaxKind}
use Rattle.je_tokens.specs.declared.syntax.SyntaxKind.TheVariants as fault
use Rattle.je_tokens.specs.declared.syntax.Syntax.{Syntax}

-- the answer is this one, unless memory ran out
abbrev pub Gives : {A : Type 0} → Result A SyntaxKind → Result A SyntaxKind → Type 0
Gives (Ok x) wanted = wanted ≡ Ok x
Gives (Err kind) wanted = (kind ≡ fault.Memory) ⊎ (wanted ≡ Err kind)

-- a fault is the one that is wanted, unless memory ran out
abbrev pub IsFault : {A : Type 0} → Syntax → Result A Syntax → Type 0
IsFault syntax wanted = (syntax.kind ≡ fault.Memory) ⊎ (wanted ≡ Err syntax)

-- some, and not more than there are
abbrev pub IsWithin : ℕ → List ℕ → Type 0
IsWithin n text = (0 < n) × (n ≤ length text)
