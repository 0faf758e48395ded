use Rattle.std.proofs.Common.{refl, ap, ◌∙◌, ⊎_elim}
use Rattle.std.proofs.lemmas.Result.{err_from_is_err_and}
use Rattle.je_instr.specs.declared.program.Decoded.{Decoded}
use Rattle.je_session.proofs.EditableLemmas.{CodeLaws, no_fault_there, decoded_there, no_handlers_there}
use Rattle.je_session.proofs.edit.editable.code_of.Goals as goal

pub returns-in_err-code-clause-only : goal.returns-in_err-code-clause-only
returns-in_err-code-clause-only c = λ decoded is.
    let laws : CodeLaws = record { layout = c.one_code.ensures.layout; no_fault = c.one_code.ensures.decoded_no_fault; decoded = c.one_decoding.ensures.same } in
    let p = err_from_is_err_and c.from_residual.result c.from_residual.ensures.1 in
    rw (p.1, p.2)
    (⊎_elim
    (λ memory. rw memory refl)
    (λ faulty. absurd (no_fault_there laws c.args.consts.now c.args.method.now decoded c.in-Some.attribute.now _ c.in-Some.ensures.some is faulty))
    c.in_err-code.ensures.fault)

pub returns-then-not-is_empty-clause-only : goal.returns-then-not-is_empty-clause-only
returns-then-not-is_empty-clause-only c = λ decoded is.
    let laws : CodeLaws = record { layout = c.one_code.ensures.layout; no_fault = c.one_code.ensures.decoded_no_fault; decoded = c.one_decoding.ensures.same } in
    let same = decoded_there laws c.args.consts.now c.args.method.now decoded c.in-Some.attribute.now c.in_ok-code.code c.in-Some.ensures.some is c.in_ok-code.ensures.found in
    let none = no_handlers_there c.args.consts.now c.args.method.now decoded is in
    let test = c.if-not-is_empty.ensures.1 (ap (λ (d : Decoded). d.program.handlers) same ∙ none) in
    absurd cc

pub returns-clause-only : goal.returns-clause-only
returns-clause-only c = λ decoded is.
    let laws : CodeLaws = record { layout = c.one_code.ensures.layout; no_fault = c.one_code.ensures.decoded_no_fault; decoded = c.one_decoding.ensures.same } in
    decoded_there laws c.args.consts.now c.args.method.now decoded c.in-Some.attribute.now c.in_ok-code.code c.in-Some.ensures.some is c.in_ok-code.ensures.found
