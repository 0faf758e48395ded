-- What was gained is what was read.
use Rattle.std.proofs.Common.{◌≤◌, vec_len, take}
use Rattle.std.specs.Io.KnownBytes.{Consumes}
use Rattle.je_base.proofs.stream.read_front.Given as goal

abbrev pub invariant-loop : goal.invariant-loop
invariant-loop g l =
    record {
      within : l.filled ≤ l.limit;
      room : l.filled ≤ vec_len l.bytes;
      taken : Consumes (g.S.Read.remaining l.initial.from) (g.S.Read.remaining l.from) (take l.filled l.bytes.items);
    }
