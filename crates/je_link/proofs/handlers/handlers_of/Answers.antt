use Rattle.std.proofs.Common.{◌≡◌, [], ◌∷◌, rules}
use Rattle.std.proofs.lemmas.List.{nil_from_length}
use Rattle.je_instr.specs.CodeProgram.{IsHandlerOf}
use Rattle.je_instr.proofs.ZipLemmas.{reached_all, reached_more, reached_no}
use Rattle.je_link.proofs.handlers.handlers_of.Goals as goal

pub returns-clause-found : goal.returns-clause-found
returns-clause-found c =
    let nothing : c.loop-entry.rest.now ≡ [] = nil_from_length c.loop-entry.rest.now (search rules) in
    let reached = c.loop-entry.invariant in
    reached_all (IsHandlerOf c.args.consts.now) c.args.entries.now c.loop-entry.handlers (rw nothing at reached)

pub loop-entry-preserved : goal.loop-entry-preserved
loop-entry-preserved c =
    let split : c.loop-entry.rest.now ≡ c.in-Some.entry.now ∷ c.in-Some.tail.now = search rules in
    let reached = c.loop-entry.invariant in
    let found = rw c.in-Some-2.is at c.in_ok-handler.ensures.found in
    rw c.in_ok-push.ensures.ok (reached_more (IsHandlerOf c.args.consts.now) c.args.entries.now c.in-Some.tail.now c.in-Some.entry.now c.loop-entry.handlers c.in-Some-2.handler (rw split at reached) found)

pub returns-in_default-2-clause-only : goal.returns-in_default-2-clause-only
returns-in_default-2-clause-only c = λ found h.
    let split : c.loop-entry.rest.now ≡ c.in-Some.entry.now ∷ c.in-Some.tail.now = search rules in
    let reached = c.loop-entry.invariant in
    let none = rw c.in_default-2.is at c.in_ok-handler.ensures.none in
    reached_no (IsHandlerOf c.args.consts.now) c.args.entries.now c.in-Some.tail.now c.in-Some.entry.now c.loop-entry.handlers found (rw split at reached) none h
