use Rattle.std.proofs.Common.{◌≡◌, ◌++◌, take}
use Rattle.std.specs.String.{string_bytes}
use Rattle.je_session.proofs.session.paths.push_ascii.Given as goal

-- the bytes so far were added
abbrev pub invariant-loop-b : goal.invariant-loop-b
invariant-loop-b l = string_bytes l.path ≡ string_bytes l.initial.path ++ take l.b-index l.text
