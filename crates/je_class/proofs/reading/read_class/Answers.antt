use Rattle.std.proofs.Common.{◌∙◌, inr, arith}
use Rattle.std.proofs.lemmas.Result.{err_from_is_err_and}
use Rattle.je_class.specs.Faults.{too_long}
use Rattle.je_class.specs.InMemory.{class_of_parts}
use Rattle.je_class.proofs.ReadLemmas.{stands_sound, stands_whole, stands_trailing, stands_only, stands_fault, fault_only, fault_first, fault_exact}
use Rattle.je_class.proofs.reading.read_class.Goals as goal

pub returns-then-len-gt-MOST_BYTES-clause-fault : goal.returns-then-len-gt-MOST_BYTES-clause-fault
returns-then-len-gt-MOST_BYTES-clause-fault c = inr (too_long (omega arith))

pub returns-in_err-parts-clause-only : goal.returns-in_err-parts-clause-only
returns-in_err-parts-clause-only c d within whole =
    let p = err_from_is_err_and c.from_residual.result c.from_residual.ensures.1 in
    rw (p.1, p.2) (fault_only c.args.bytes.now c.in_err-parts.field-0.0 c.one_class_way.ensures c.in_err-parts.ensures d whole)

pub returns-in_err-parts-clause-fault : goal.returns-in_err-parts-clause-fault
returns-in_err-parts-clause-fault c =
    let p = err_from_is_err_and c.from_residual.result c.from_residual.ensures.1 in
    rw (p.1, p.2) (fault_first c.args.bytes.now c.in_err-parts.field-0.0 (omega arith) c.in_err-parts.ensures)

pub returns-in_err-parts-clause-exact : goal.returns-in_err-parts-clause-exact
returns-in_err-parts-clause-exact c d first =
    let p = err_from_is_err_and c.from_residual.result c.from_residual.ensures.1 in
    rw (p.1, p.2) (fault_exact c.args.bytes.now c.in_err-parts.field-0.0 c.one_class_way.ensures (omega arith) c.in_err-parts.ensures d first)

pub returns-then-end-len-clause-only : goal.returns-then-end-len-clause-only
returns-then-end-len-clause-only c d within whole =
    let same = stands_only c.args.bytes.now (class_of_parts c.in_ok-parts.parts) c.in_ok-parts.end c.in_ok-parts.ensures c.one_class_way.ensures d whole in
    absurd (omega (arith, same.1))

pub returns-then-end-len-clause-fault : goal.returns-then-end-len-clause-fault
returns-then-end-len-clause-fault c =
    inr (stands_trailing c.args.bytes.now (class_of_parts c.in_ok-parts.parts) c.in_ok-parts.end c.in_ok-parts.ensures (omega arith) (omega arith))

pub returns-then-end-len-clause-exact : goal.returns-then-end-len-clause-exact
returns-then-end-len-clause-exact c d first =
    inr (stands_fault c.args.bytes.now (class_of_parts c.in_ok-parts.parts) c.in_ok-parts.end c.in_ok-parts.ensures c.one_class_way.ensures d (omega arith) first).1

pub of_parts-requires : goal.of_parts-requires
of_parts-requires c = record { parts = stands_sound c.args.bytes.now (class_of_parts c.in_ok-parts.parts) c.in_ok-parts.end c.in_ok-parts.ensures }

pub returns-clause-found : goal.returns-clause-found
returns-clause-found c =
    rw c.of_parts.ensures (stands_whole c.args.bytes.now (class_of_parts c.in_ok-parts.parts) c.in_ok-parts.end c.in_ok-parts.ensures (omega arith))

pub returns-clause-only : goal.returns-clause-only
returns-clause-only c d within whole =
    c.of_parts.ensures ∙ (stands_only c.args.bytes.now (class_of_parts c.in_ok-parts.parts) c.in_ok-parts.end c.in_ok-parts.ensures c.one_class_way.ensures d whole).0

pub returns-clause-exact : goal.returns-clause-exact
returns-clause-exact c d first =
    let fault = stands_fault c.args.bytes.now (class_of_parts c.in_ok-parts.parts) c.in_ok-parts.end c.in_ok-parts.ensures c.one_class_way.ensures d (omega arith) first in
    absurd (omega (arith, fault.0))
