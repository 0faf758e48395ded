use Rattle.std.proofs.Common.{◌≡◌, sym, ap, subst, ◌∙◌}
use Rattle.std.specs.Prelude.{count_by, is_some}
use Rattle.std.specs.List.{AllByRecursion}
use Rattle.std.proofs.lemmas.Result.{err_from_is_err_and}
use Rattle.je_instr.specs.declared.program.Decoded.{Decoded}
use Rattle.je_session.specs.ClassEdit.{IsPlanEdit, plan_edit}
use Rattle.je_session.specs.Kept.{IsSoFar}
use Rattle.je_session.specs.Splice.{AreChosen, IsNewCode}
use Rattle.je_session.proofs.AgreesLemmas.{Laws}
use Rattle.je_session.proofs.EditableLemmas.{OpcodeLaws}
use Rattle.je_session.proofs.EditedMethodLemmas.{unchosen_edited, spliced_edited}
use Rattle.je_session.proofs.SourceLemmas.{same_choices, form_of_editable, can_be_spliced}
use Rattle.je_session.proofs.edit.method.edit_method.Goals as goal

pub returns-in_err-editable-clause-not_yet : goal.returns-in_err-editable-clause-not_yet
returns-in_err-editable-clause-not_yet c =
    let p = err_from_is_err_and c.from_residual.result c.from_residual.ensures.1 in
    rw (p.1, p.2) (λ is f. let memory = c.in_err-editable.ensures.only f in absurd cc)

pub returns-in_err-chosen-clause-not_yet : goal.returns-in_err-chosen-clause-not_yet
returns-in_err-chosen-clause-not_yet c =
    let p = err_from_is_err_and c.from_residual-in_err-chosen.result c.from_residual-in_err-chosen.ensures.1 in
    rw (p.1, p.2) (λ is f.
    let instrs_are = sym (c.as_slice.ensures ∙ ap (λ (d : Decoded). d.program.instrs) (c.in_ok-editable.ensures.only f)) in
    c.in_err-chosen.ensures.not_yet is
    (subst (λ k. AllByRecursion (IsSoFar k) c.as_slice.result.now) (sym c.consts.ensures) (subst (AllByRecursion (IsSoFar c.args.class.now.consts)) instrs_are f.instrs)))

pub new_code-requires : goal.new_code-requires
new_code-requires c =
    let e = c.in_ok-editable.editable in
    let opcodes : OpcodeLaws = record { nop = c.opcodes_mean.ensures.nop; leaves = c.opcodes_mean.ensures.leaves; calls = c.opcodes_mean.ensures.calls; callee = c.opcodes_mean.ensures.callee } in
    let choices : AreChosen c.args.class.now.consts c.args.plan.now.rules e.code.decoded.program.instrs c.in_ok-chosen.chosen =
    same_choices _ _ _ _ _ _ _ c.consts.ensures c.as_slice-2.ensures c.as_slice.ensures c.in_ok-chosen.ensures.chosen in
    rw (c.consts-2.ensures, c.as_slice-4.ensures) (can_be_spliced opcodes c.args.class.now c.args.plan.now e.at e.code c.in_ok-chosen.chosen c.in_ok-editable.ensures.found choices)

-- ---- nothing is chosen

pub returns-then-count-eq0-clause-edited : goal.returns-then-count-eq0-clause-edited
returns-then-count-eq0-clause-edited c =
    let e = c.in_ok-editable.editable in
    let opcodes : OpcodeLaws = record { nop = c.opcodes_mean.ensures.nop; leaves = c.opcodes_mean.ensures.leaves; calls = c.opcodes_mean.ensures.calls; callee = c.opcodes_mean.ensures.callee } in
    let choices : AreChosen c.args.class.now.consts c.args.plan.now.rules e.code.decoded.program.instrs c.in_ok-chosen.chosen =
    same_choices _ _ _ _ _ _ _ c.consts.ensures c.as_slice-2.ensures c.as_slice.ensures c.in_ok-chosen.ensures.chosen in
    let laws : Laws = record {
      gives = c.actions_do.ensures.gives;
      agrees = c.machine_runs.ensures.agrees;
    } in
    let none : count_by is_some c.in_ok-chosen.chosen ≡ 0 = ap (count_by is_some) (sym c.as_slice-3.ensures) ∙ sym c.count_chosen-count.ensures ∙ c.if-count-eq0.true in
    subst (λ n. IsPlanEdit (plan_edit c.args.plan.now c.args.class.now c.args.class.now n)) none
    (unchosen_edited c.one_program.ensures laws opcodes c.args.class.now c.args.plan.now e.at e.code c.in_ok-chosen.chosen c.in_ok-editable.ensures.found choices none)

pub returns-then-count-eq0-clause-form : goal.returns-then-count-eq0-clause-form
returns-then-count-eq0-clause-form c =
    let e = c.in_ok-editable.editable in
    let opcodes : OpcodeLaws = record { nop = c.opcodes_mean.ensures.nop; leaves = c.opcodes_mean.ensures.leaves; calls = c.opcodes_mean.ensures.calls; callee = c.opcodes_mean.ensures.callee } in
    let choices : AreChosen c.args.class.now.consts c.args.plan.now.rules e.code.decoded.program.instrs c.in_ok-chosen.chosen =
    same_choices _ _ _ _ _ _ _ c.consts.ensures c.as_slice-2.ensures c.as_slice.ensures c.in_ok-chosen.ensures.chosen in
    form_of_editable opcodes c.args.class.now c.args.plan.now e.at e.code c.in_ok-chosen.chosen c.in_ok-editable.ensures.found choices

-- ---- something is chosen

pub returns-clause-edited : goal.returns-clause-edited
returns-clause-edited c =
    let e = c.in_ok-editable.editable in
    let opcodes : OpcodeLaws = record { nop = c.opcodes_mean.ensures.nop; leaves = c.opcodes_mean.ensures.leaves; calls = c.opcodes_mean.ensures.calls; callee = c.opcodes_mean.ensures.callee } in
    let choices : AreChosen c.args.class.now.consts c.args.plan.now.rules e.code.decoded.program.instrs c.in_ok-chosen.chosen =
    same_choices _ _ _ _ _ _ _ c.consts.ensures c.as_slice-2.ensures c.as_slice.ensures c.in_ok-chosen.ensures.chosen in
    let laws : Laws = record {
      gives = c.actions_do.ensures.gives;
      agrees = c.machine_runs.ensures.agrees;
    } in
    let count_is : count_by is_some c.in_ok-chosen.chosen ≡ c.count_chosen-count.result = ap (count_by is_some) (sym c.as_slice-3.ensures) ∙ sym c.count_chosen-count.ensures in
    let some : count_by is_some c.in_ok-chosen.chosen ≡ 0 → ⊥ = λ none. c.if-count-eq0.false (sym count_is ∙ none) in
    let made : IsNewCode c.args.class.now.consts e.code c.in_ok-chosen.chosen c.in_ok-bytes.bytes.items =
    rw (← c.consts-2.ensures, ← c.as_slice-4.ensures) c.in_ok-bytes.ensures.code in
    let all = spliced_edited c.one_program.ensures laws opcodes c.args.class.now c.args.plan.now e.at e.code c.in_ok-chosen.chosen c.in_ok-editable.ensures.found choices some c.in_ok-bytes.bytes.items made in
    subst (λ n. IsPlanEdit (plan_edit c.args.plan.now c.args.class.now c.set_method_attribute.new.self n)) count_is
    (rw (c.set_method_attribute.ensures, c.in_ok-run.ensures) all)

pub returns-clause-form : goal.returns-clause-form
returns-clause-form c =
    let e = c.in_ok-editable.editable in
    let opcodes : OpcodeLaws = record { nop = c.opcodes_mean.ensures.nop; leaves = c.opcodes_mean.ensures.leaves; calls = c.opcodes_mean.ensures.calls; callee = c.opcodes_mean.ensures.callee } in
    let choices : AreChosen c.args.class.now.consts c.args.plan.now.rules e.code.decoded.program.instrs c.in_ok-chosen.chosen =
    same_choices _ _ _ _ _ _ _ c.consts.ensures c.as_slice-2.ensures c.as_slice.ensures c.in_ok-chosen.ensures.chosen in
    form_of_editable opcodes c.args.class.now c.args.plan.now e.at e.code c.in_ok-chosen.chosen c.in_ok-editable.ensures.found choices
