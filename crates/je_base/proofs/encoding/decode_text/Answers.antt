use Rattle.std.proofs.Common.{List, ℕ, sym, subst, arith}
use Rattle.std.proofs.lemmas.Str.{IsUtf8-string_bytes}
use Rattle.std.specs.String.{string_bytes}
use Rattle.std.specs.Str.{chars}
use Rattle.je_base.proofs.EncodingLemmas.{Reads, reads_none, reads_on, reads_all, reads_stops, decoded_same, decoded_is, decoded_none}
use Rattle.je_base.proofs.encoding.decode_text.Goals as goal

pub loop-c-init : goal.loop-c-init
loop-c-init c =
    subst (λ (text : List ℕ). Reads c.args.b.now text c.args.b.now) (sym c.new-string.ensures.bytes) (reads_none c.args.b.now)

pub loop-c-preserved : goal.loop-c-preserved
loop-c-preserved c =
    let more = reads_on c.args.b.now (string_bytes c.loop-c.string) c.loop-c.left.now c.in-Some.rest.now c.in-Some.c (IsUtf8-string_bytes c.loop-c.string) c.in-Some.ensures.scalar c.in-Some.ensures.some c.loop-c.invariant in
    subst (λ (text : List ℕ). Reads c.args.b.now text c.in-Some.rest.now) (sym c.in_ok-push.ensures.bytes) more

pub returns-then-not-is_empty-clause-none : goal.returns-then-not-is_empty-clause-none
returns-then-not-is_empty-clause-none c =
    reads_stops c.args.b.now (string_bytes c.loop-c.string) c.loop-c.left.now c.in_default.ensures.none (grind arith) c.loop-c.invariant

pub returns-then-not-is_empty-clause-decoded : goal.returns-then-not-is_empty-clause-decoded
returns-then-not-is_empty-clause-decoded c = sym (decoded_none c.args.b.now (returns-then-not-is_empty-clause-none c))

pub returns-clause-some : goal.returns-clause-some
returns-clause-some c =
    reads_all c.args.b.now (string_bytes c.loop-c.string) c.loop-c.left.now (IsUtf8-string_bytes c.loop-c.string) (grind arith) c.loop-c.invariant

pub returns-clause-only : goal.returns-clause-only
returns-clause-only c other d =
    decoded_same c.args.b.now other (chars (string_bytes c.loop-c.string)) d (returns-clause-some c)

pub returns-clause-decoded : goal.returns-clause-decoded
returns-clause-decoded c = sym (decoded_is c.args.b.now (chars (string_bytes c.loop-c.string)) (returns-clause-some c))
