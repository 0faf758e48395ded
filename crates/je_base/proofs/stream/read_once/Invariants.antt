-- A read that was interrupted took nothing.
use Rattle.std.proofs.Common.{◌≡◌, length}
use Rattle.std.specs.Io.KnownBytes.{Keeps}
use Rattle.je_base.proofs.stream.read_once.Given as goal

abbrev pub invariant-loop : goal.invariant-loop
invariant-loop g l =
    record {
      room : length l.piece ≡ length l.initial.piece;
      kept : Keeps (g.S.Read.remaining l.initial.from) (g.S.Read.remaining l.from);
    }
