use Rattle.std.proofs.Common.{◌≡◌, None, refl, sym, ap, subst, ◌∙◌}
use Rattle.je_machine.specs.Operation.{Nop, Do, Return}
use Rattle.je_instr.specs.declared.instr.Instr.TheVariants as instr
use Rattle.je_instr.specs.Resolves.{Resolves}
use Rattle.je_session.specs.Editable.{returning}
use Rattle.je_session.specs.Splice.{static_call}
use Rattle.je_session.proofs.ChosenLemmas.{chosen_fragment-Nop, chosen_fragment-Return}
use Rattle.je_session.proofs.edit.chosen.choose_one.Goals as goal

pub returns-in-Simple-eq0-clause-chosen : goal.returns-in-Simple-eq0-clause-chosen
returns-in-Simple-eq0-clause-chosen c =
    let nop : c.in-Simple-eq0.field-0 ≡ 0 = rw c.in-Simple-eq0.is at c.in-Simple-eq0.field-0-test in
    let is : c.args.instr.now ≡ instr.Simple 0 = c.in-Simple-eq0.is ∙ ap instr.Simple nop in
    (Do Nop, subst (λ i. Resolves c.args.consts.now i (Do Nop)) (sym is) ((c.opcodes_mean.ensures.nop c.args.consts.now (Do Nop)).1 refl), sym (chosen_fragment-Nop c.args.rules.now))

pub returns-in-Simple-eq177-clause-chosen : goal.returns-in-Simple-eq177-clause-chosen
returns-in-Simple-eq177-clause-chosen c =
    let leaves : c.in-Simple-eq177.field-0 ≡ 177 = rw c.in-Simple-eq177.is at c.in-Simple-eq177.field-0-test in
    let is : c.args.instr.now ≡ returning = c.in-Simple-eq177.is ∙ ap instr.Simple leaves in
    (Return None, subst (λ i. Resolves c.args.consts.now i (Return None)) (sym is) ((c.opcodes_mean.ensures.leaves c.args.consts.now (Return None)).1 refl), sym (chosen_fragment-Return c.args.rules.now))

pub returns-in-Some-clause-chosen : goal.returns-in-Some-clause-chosen
returns-in-Some-clause-chosen c =
    let call = static_call c.in-Some.class_name.now c.in-Some.member.now in
    let index = c.in-Invoke-eq184-default.index in
    let calls : c.in-Invoke-eq184-default.field-0 ≡ 184 = rw c.in-Invoke-eq184-default.is at c.in-Invoke-eq184-default.field-0-test in
    let is : c.args.instr.now ≡ instr.Invoke 184 index = c.in-Invoke-eq184-default.is ∙ ap (λ o. instr.Invoke o index) calls in
    let callee = c.opcodes_mean.ensures.callee c.args.consts.now index _ _ _ call c.in-Some.ensures.found c.in-Some.ensures.callable in
    (call, subst (λ i. Resolves c.args.consts.now i call) (sym is) (callee.1 refl), c.fragment_for.ensures)
