use Rattle.std.proofs.Common.{◌≡◌, refl, ap, subst, ◌∙◌}
use Rattle.std.specs.Prelude.{codes}
use Rattle.std.proofs.lemmas.Result.{err_from_is_err_and}
use Rattle.je_instr.specs.declared.program.Decoded.{Decoded}
use Rattle.je_session.specs.Editable.{IsCodeOf}
use Rattle.je_session.proofs.EditableLemmas.{OpcodeLaws, IsDecodedTo-there, IsReturning-form, method_there}
use Rattle.je_session.proofs.edit.editable.find_editable.Goals as goal

pub returns-in_err-code-clause-only : goal.returns-in_err-code-clause-only
returns-in_err-code-clause-only c =
    let p = err_from_is_err_and c.from_residual-in_err-code.result c.from_residual-in_err-code.ensures.1 in
    rw (p.1, p.2) (λ f.
    let found = rw c.in-Some.is at c.in_ok-at.ensures.found in
    c.in_err-code.ensures.only _ (IsDecodedTo-there c.args.class.now c.args.name.now f c.in-Some.at c.index-methods-at.result c.consts.result.now c.methods.result.now found c.consts.ensures c.methods.ensures c.index-methods-at.is))

pub returns-then-not-is_returning-clause-only : goal.returns-then-not-is_returning-clause-only
returns-then-not-is_returning-clause-only c = λ f.
    let found = rw c.in-Some.is at c.in_ok-at.ensures.found in
    let same = c.in_ok-code.ensures.only _ (IsDecodedTo-there c.args.class.now c.args.name.now f c.in-Some.at c.index-methods-at.result c.consts.result.now c.methods.result.now found c.consts.ensures c.methods.ensures c.index-methods-at.is) in
    let instrs_are : c.as_slice.result.now ≡ f.of.of_code.decoded.program.instrs = c.as_slice.ensures ∙ ap (λ (d : Decoded). d.program.instrs) same in
    let laws : OpcodeLaws = record { nop = c.opcodes_mean.ensures.nop; leaves = c.opcodes_mean.ensures.leaves; calls = c.opcodes_mean.ensures.calls; callee = c.opcodes_mean.ensures.callee } in
    let test = c.if-not-is_returning.ensures.1 (rw instrs_are (IsReturning-form laws c.args.class.now c.args.name.now f)) in
    absurd cc

pub returns-clause-found : goal.returns-clause-found
returns-clause-found c =
    let found = rw c.in-Some.is at c.in_ok-at.ensures.found in
    record {
      is_method = found;
      method = c.index-methods-at.result;
      here = method_there c.args.class.now c.args.name.now (codes "()V") c.in-Some.at c.index-methods-at.result c.methods.result.now found c.methods.ensures c.index-methods-at.is;
      code_of = subst (λ k. IsCodeOf k c.index-methods-at.result c.in_ok-code.code) c.consts.ensures c.in_ok-code.ensures.found;
      returning = rw (← c.as_slice.ensures) (c.if-not-is_returning.ensures.0 refl);
    }

pub returns-clause-only : goal.returns-clause-only
returns-clause-only c = λ f.
    let found = rw c.in-Some.is at c.in_ok-at.ensures.found in
    c.in_ok-code.ensures.only _ (IsDecodedTo-there c.args.class.now c.args.name.now f c.in-Some.at c.index-methods-at.result c.consts.result.now c.methods.result.now found c.consts.ensures c.methods.ensures c.index-methods-at.is)
