use Rattle.std.proofs.Common.{sym, subst, [], List, Option}
use Rattle.std.specs.Prelude.{IfSome}
use Rattle.std.specs.List.{AllZip}
use Rattle.je_instr.specs.declared.instr.Instr.{Instr}
use Rattle.je_instr.specs.Resolves.{Resolves}
use Rattle.je_machine.specs.Operation.{Program}
use Rattle.je_shape.specs.declared.slot.Shape.{Shape}
use Rattle.je_shape.specs.Views.{shapes_seen}
use Rattle.je_shapes.specs.Code.{HasCode}
use Rattle.je_least.specs.Answer.{IsShapes}
use Rattle.je_calls.specs.Method.{Task, task, method_with}
use Rattle.je_calls.proofs.ShapeLemmas.{Laws, IsFound, some_found, found_long, ok_both, err_as, chosen_long, chosen_found, replaceable_found}
use Rattle.je_calls.proofs.reach.choices_for.Goals as goal

pub choices_of-requires : goal.choices_of-requires
choices_of-requires c =
    let t : Task = task c.args.class_name.now c.args.consts.now c.args.p.now c.args.is_static c.args.is_init c.args.types.now [] in
    let resolves =
    some_found (AllZip (Resolves c.args.consts.now) c.args.p.now.instrs) c.in_ok-operations.field-0 c.in-Some.operations c.as_slice-2.result.now c.in-Some.is c.as_slice-2.ensures
    (subst (λ (is : List Instr). IfSome c.in_ok-operations.field-0 (AllZip (Resolves c.args.consts.now) is)) c.as_slice.ensures c.in_ok-operations.ensures.found) in
    found_long t c.as_slice-3.result.now
    (subst (λ (list : List (Option Shape)). (machine : Program) → HasCode t.consts t.code machine → IsShapes (method_with t machine) (shapes_seen list)) (sym c.as_slice-3.ensures) c.in-Ok.ensures.shapes)
    c.requires.caught c.as_slice-2.result.now resolves

pub returns-in-Err-clause-not_yet : goal.returns-in-Err-clause-not_yet
returns-in-Err-clause-not_yet c = λ e program x of faultless plain. c.in-Err.ensures.bad e program x (record { operations = of.operations; handlers = of.handlers }) faultless

pub returns-clause-long : goal.returns-clause-long
returns-clause-long c =
    let t : Task = task c.args.class_name.now c.args.consts.now c.args.p.now c.args.is_static c.args.is_init c.args.types.now c.args.rules.now in
    let laws : Laws = record { below = c.one_least.ensures.below; one = c.one_program.ensures.operations } in
    let found : IsFound t c.as_slice-3.result.now c.as_slice-2.result.now =
    record {
      resolves =
          some_found (AllZip (Resolves c.args.consts.now) c.args.p.now.instrs) c.in_ok-operations.field-0 c.in-Some.operations c.as_slice-2.result.now c.in-Some.is c.as_slice-2.ensures
          (subst (λ (is : List Instr). IfSome c.in_ok-operations.field-0 (AllZip (Resolves c.args.consts.now) is)) c.as_slice.ensures c.in_ok-operations.ensures.found);
      shapes =
          subst (λ (list : List (Option Shape)). (machine : Program) → HasCode t.consts t.code machine → IsShapes (method_with t machine) (shapes_seen list)) (sym c.as_slice-3.ensures) c.in-Ok.ensures.shapes;
    } in
    let long =
    found_long t c.as_slice-3.result.now
    (subst (λ (list : List (Option Shape)). (machine : Program) → HasCode t.consts t.code machine → IsShapes (method_with t machine) (shapes_seen list)) (sym c.as_slice-3.ensures) c.in-Ok.ensures.shapes)
    c.requires.caught c.as_slice-2.result.now found.resolves in
    ok_both c.choices_of.result c.choices_of.ensures.chosen c.choices_of.ensures.form (λ choices is all. chosen_long t c.as_slice-3.result.now c.as_slice-2.result.now found long choices.items is)

pub returns-clause-chosen : goal.returns-clause-chosen
returns-clause-chosen c =
    let t : Task = task c.args.class_name.now c.args.consts.now c.args.p.now c.args.is_static c.args.is_init c.args.types.now c.args.rules.now in
    let laws : Laws = record { below = c.one_least.ensures.below; one = c.one_program.ensures.operations } in
    let found : IsFound t c.as_slice-3.result.now c.as_slice-2.result.now =
    record {
      resolves =
          some_found (AllZip (Resolves c.args.consts.now) c.args.p.now.instrs) c.in_ok-operations.field-0 c.in-Some.operations c.as_slice-2.result.now c.in-Some.is c.as_slice-2.ensures
          (subst (λ (is : List Instr). IfSome c.in_ok-operations.field-0 (AllZip (Resolves c.args.consts.now) is)) c.as_slice.ensures c.in_ok-operations.ensures.found);
      shapes =
          subst (λ (list : List (Option Shape)). (machine : Program) → HasCode t.consts t.code machine → IsShapes (method_with t machine) (shapes_seen list)) (sym c.as_slice-3.ensures) c.in-Ok.ensures.shapes;
    } in
    ok_both c.choices_of.result c.choices_of.ensures.chosen c.choices_of.ensures.form (λ choices is all. chosen_found laws t c.as_slice-3.result.now c.as_slice-2.result.now found all choices.items is)

pub returns-clause-not_yet : goal.returns-clause-not_yet
returns-clause-not_yet c =
    let t : Task = task c.args.class_name.now c.args.consts.now c.args.p.now c.args.is_static c.args.is_init c.args.types.now c.args.rules.now in
    let laws : Laws = record { below = c.one_least.ensures.below; one = c.one_program.ensures.operations } in
    let found : IsFound t c.as_slice-3.result.now c.as_slice-2.result.now =
    record {
      resolves =
          some_found (AllZip (Resolves c.args.consts.now) c.args.p.now.instrs) c.in_ok-operations.field-0 c.in-Some.operations c.as_slice-2.result.now c.in-Some.is c.as_slice-2.ensures
          (subst (λ (is : List Instr). IfSome c.in_ok-operations.field-0 (AllZip (Resolves c.args.consts.now) is)) c.as_slice.ensures c.in_ok-operations.ensures.found);
      shapes =
          subst (λ (list : List (Option Shape)). (machine : Program) → HasCode t.consts t.code machine → IsShapes (method_with t machine) (shapes_seen list)) (sym c.as_slice-3.ensures) c.in-Ok.ensures.shapes;
    } in
    err_as c.choices_of.result c.choices_of.ensures.not_yet
    (λ e refused not_yet program x of faultless plain. refused not_yet (replaceable_found laws t c.as_slice-3.result.now c.as_slice-2.result.now found program x of faultless plain))
