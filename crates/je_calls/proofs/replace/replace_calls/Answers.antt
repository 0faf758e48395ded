use Rattle.std.proofs.Common.{◌≡◌, ◌∙◌, ◌<◌, List, suc, length, ap, subst}
use Rattle.std.specs.Prelude.{count_by}
use Rattle.je_instr.specs.declared.program.Program.{Program}
use Rattle.je_instr.specs.Assembling.{IsProgram, AllowsProgram}
use Rattle.je_put.specs.Result.{Lists}
use Rattle.je_calls.specs.declared.rule.Choice.{Choice}
use Rattle.je_calls.specs.Chosen.{is_given}
use Rattle.je_calls.specs.Result.{new_program, new_place}
use Rattle.je_calls.specs.Method.{Task, task}
use Rattle.je_calls.proofs.ShapeLemmas.{allows}
use Rattle.je_calls.proofs.ReplaceLemmas.{replaced, formed, some_item, new_holds}
use Rattle.je_calls.proofs.replace.replace_calls.Goals as goal

pub returns-in-Err-clause-not_yet : goal.returns-in-Err-clause-not_yet
returns-in-Err-clause-not_yet c = λ e z. c.in-Err.ensures.not_yet e z.0 z.2.x z.1 z.2.faultless z.2.plain

pub returns-then-not-allows_program-clause-not_yet : goal.returns-then-not-allows_program-clause-not_yet
returns-then-not-allows_program-clause-not_yet c = λ e z.
    let t : Task = task c.args.class_name.now c.args.consts.now c.args.p.now c.args.is_static c.args.is_init c.args.types.now c.args.rules.now in
    let allowed = c.allows_program.ensures.1 (allows t z.0 (c.operations_exist.ensures.only c.args.consts.now) z.1) in
    let not_allowed = c.if-not-allows_program.true in
    absurd cc

pub returns-clause-replaced : goal.returns-clause-replaced
returns-clause-replaced c = λ program of.
    let t : Task = task c.args.class_name.now c.args.consts.now c.args.p.now c.args.is_static c.args.is_init c.args.types.now c.args.rules.now in
    let some = some_item c.args.p.now.instrs c.is_empty.result c.if-is_empty.false c.is_empty.ensures.1 in
    let choices_are : c.deref.result.now ≡ c.in-Ok.choices.items = c.deref.ensures.value in
    replaced t program c.in_ok-replaced.replaced c.in-Ok.choices.items (c.in-Ok.ensures.chosen program of)
    (c.in_ok-replaced.ensures.program ∙ ap (new_program c.args.p.now) c.deref.ensures.value)
    (subst (λ (l : List Choice). Lists (new_place c.args.p.now l) (suc (length c.args.p.now.instrs)) c.in_ok-replaced.replaced.new_of) choices_are c.in_ok-replaced.ensures.new_of)
    (c.in_ok-replaced.ensures.count ∙ ap (count_by is_given) choices_are)
    (λ chosen new of_new. c.new_programs_agree.ensures t program new chosen.x c.count.ensures.pool c.requires some of chosen.faultless chosen.plain of_new)

pub returns-clause-form : goal.returns-clause-form
returns-clause-form c =
    let t : Task = task c.args.class_name.now c.args.consts.now c.args.p.now c.args.is_static c.args.is_init c.args.types.now c.args.rules.now in
    let some = some_item c.args.p.now.instrs c.is_empty.result c.if-is_empty.false c.is_empty.ensures.1 in
    formed c.operations_exist.ensures.all t (c.allows_program.ensures.0 c.if-not-allows_program.false) some c.in-Ok.choices.items c.in-Ok.ensures.chosen

pub returns-clause-program : goal.returns-clause-program
returns-clause-program c =
    let t : Task = task c.args.class_name.now c.args.consts.now c.args.p.now c.args.is_static c.args.is_init c.args.types.now c.args.rules.now in
    let some = some_item c.args.p.now.instrs c.is_empty.result c.if-is_empty.false c.is_empty.ensures.1 in
    new_holds (IsProgram) t c.in-Ok.choices.items c.in_ok-replaced.replaced.program (c.in_ok-replaced.ensures.program ∙ ap (new_program c.args.p.now) c.deref.ensures.value)
    (formed c.operations_exist.ensures.all t (c.allows_program.ensures.0 c.if-not-allows_program.false) some c.in-Ok.choices.items c.in-Ok.ensures.chosen) c.in-Ok.ensures.chosen
    (λ program x of faultless plain. c.replaced_programs.ensures.program t program x of faultless plain c.requires)

pub returns-clause-some : goal.returns-clause-some
returns-clause-some c =
    let t : Task = task c.args.class_name.now c.args.consts.now c.args.p.now c.args.is_static c.args.is_init c.args.types.now c.args.rules.now in
    let some = some_item c.args.p.now.instrs c.is_empty.result c.if-is_empty.false c.is_empty.ensures.1 in
    new_holds (λ (p : Program). 0 < length p.instrs) t c.in-Ok.choices.items c.in_ok-replaced.replaced.program (c.in_ok-replaced.ensures.program ∙ ap (new_program c.args.p.now) c.deref.ensures.value)
    (formed c.operations_exist.ensures.all t (c.allows_program.ensures.0 c.if-not-allows_program.false) some c.in-Ok.choices.items c.in-Ok.ensures.chosen) c.in-Ok.ensures.chosen
    (λ program x of faultless plain. c.replaced_programs.ensures.some t program x of faultless plain some)

pub returns-clause-allowed : goal.returns-clause-allowed
returns-clause-allowed c =
    let t : Task = task c.args.class_name.now c.args.consts.now c.args.p.now c.args.is_static c.args.is_init c.args.types.now c.args.rules.now in
    let some = some_item c.args.p.now.instrs c.is_empty.result c.if-is_empty.false c.is_empty.ensures.1 in
    new_holds (AllowsProgram t.consts) t c.in-Ok.choices.items c.in_ok-replaced.replaced.program (c.in_ok-replaced.ensures.program ∙ ap (new_program c.args.p.now) c.deref.ensures.value)
    (formed c.operations_exist.ensures.all t (c.allows_program.ensures.0 c.if-not-allows_program.false) some c.in-Ok.choices.items c.in-Ok.ensures.chosen) c.in-Ok.ensures.chosen
    (λ program x of faultless plain. c.replaced_programs.ensures.allowed t program x of (c.allows_program.ensures.0 c.if-not-allows_program.false))
