use Rattle.std.proofs.Common.{◌≡◌, ◌+◌, ◌^◌, ◌<◌, take, drop}
use Rattle.je_tokens.specs.Places.{place_after, byte_count}
use Rattle.je_tokens.proofs.places.place_after.Given as goal

abbrev pub invariant-loop-c : goal.invariant-loop-c
invariant-loop-c l = record {
  there : l.after ≡ place_after l.fn.place (take l.c-index l.text);
  fits : l.after.offset + byte_count (drop l.c-index l.text) < 2 ^ 64;
}
