use Rattle.std.proofs.Common.{length, arith}
use Rattle.std.proofs.lemmas.Result.{err_from_is_err_and}
use Rattle.je_instr.proofs.FollowLemmas.{begins_within, as_many, few}
use Rattle.je_instr.proofs.DecodeLemmas.{starts_apart, stops_fault, nowhere_fault, no_entry_fault}
use Rattle.je_instr.proofs.DecodeLemmas.{decoded_is}
use Rattle.je_instr.proofs.decoder.decoded.Goals as goal

pub returns-in_err-located-clause-fault : goal.returns-in_err-located-clause-fault
returns-in_err-located-clause-fault c =
    let p = err_from_is_err_and c.from_residual.result c.from_residual.ensures.1 in
    rw (p.1, p.2) (stops_fault c.args.consts.now c.args.code.now c.args.table.now _ c.in_err-located.ensures.fault)

pub places_of-requires-clause-apart : goal.places_of-requires-clause-apart
places_of-requires-clause-apart c =
    rw c.deref.ensures.value (starts_apart c.args.consts.now c.args.code.now c.args.table.now c.in_ok-located.located.items c.in_ok-located.starts.items c.in_ok-located.ensures.found)

pub places_of-requires-clause-within : goal.places_of-requires-clause-within
places_of-requires-clause-within c =
    rw c.deref.ensures.value (λ o k b. begins_within c.args.consts.now c.args.code.now 0 c.in_ok-located.located.items c.in_ok-located.starts.items (length c.args.code.now) o k c.in_ok-located.ensures.found b)

pub places_of-requires-clause-short : goal.places_of-requires-clause-short
places_of-requires-clause-short c =
    let f = few c.args.consts.now c.args.code.now 0 c.in_ok-located.located.items c.in_ok-located.starts.items (length c.args.code.now) c.in_ok-located.ensures.found in
    rw c.deref.ensures.value (omega (arith, f, c.if-code-ge-TOO_LONG.false))

pub all_resolved-requires-clause-long : goal.all_resolved-requires-clause-long
all_resolved-requires-clause-long c =
    rw (c.deref-2.ensures.value, c.deref-4.ensures.value) (as_many c.args.consts.now c.args.code.now 0 c.in_ok-located.located.items c.in_ok-located.starts.items (length c.args.code.now) c.in_ok-located.ensures.found)

pub returns-in_err-instrs-clause-fault : goal.returns-in_err-instrs-clause-fault
returns-in_err-instrs-clause-fault c =
    let p = err_from_is_err_and c.from_residual-in_err-instrs.result c.from_residual-in_err-instrs.ensures.1 in
    rw (p.1, p.2) (nowhere_fault c.args.consts.now c.args.code.now c.args.table.now c.in_ok-located.located.items c.in_ok-located.starts.items c.in_ok-located.ensures.found _ (rw (c.deref-2.ensures.value, c.deref-4.ensures.value) at c.in_err-instrs.ensures.fault))

pub entries-requires-clause-short : goal.entries-requires-clause-short
entries-requires-clause-short c =
    let f = few c.args.consts.now c.args.code.now 0 c.in_ok-located.located.items c.in_ok-located.starts.items (length c.args.code.now) c.in_ok-located.ensures.found in
    rw c.deref-5.ensures.value (omega (arith, f, c.if-code-ge-TOO_LONG.false))

pub returns-in_err-handlers-clause-fault : goal.returns-in_err-handlers-clause-fault
returns-in_err-handlers-clause-fault c =
    let p = err_from_is_err_and c.from_residual-in_err-handlers.result c.from_residual-in_err-handlers.ensures.1 in
    rw (p.1, p.2) (no_entry_fault c.args.consts.now c.args.code.now c.args.table.now c.in_ok-located.located.items c.in_ok-located.starts.items c.in_ok-located.ensures.found c.in_ok-instrs.instrs.items (rw (c.deref-2.ensures.value, c.deref-4.ensures.value) at c.in_ok-instrs.ensures.found) _ (rw (c.deref-5.ensures.value, c.new.ensures) at c.in_err-handlers.ensures.fault))

pub returns-clause-found : goal.returns-clause-found
returns-clause-found c =
    rw (c.from_vec.ensures, c.from_vec-2.ensures, c.from_vec-3.ensures, c.in_ok-push.ensures.items)
    (decoded_is c.args.consts.now c.args.code.now c.args.table.now c.in_ok-located.located.items c.in_ok-located.starts.items c.in_ok-located.ensures.found c.in_ok-instrs.instrs.items c.in_ok-handlers.handlers.items (rw (c.deref-2.ensures.value, c.deref-4.ensures.value) at c.in_ok-instrs.ensures.found) (rw (c.deref-5.ensures.value, c.new.ensures) at c.in_ok-handlers.ensures.found))
