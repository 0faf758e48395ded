use Rattle.std.proofs.Common.{◌≡◌, Some, sym, subst, ◌∙◌}
use Rattle.std.specs.Prelude.{option_map}
use Rattle.je_instr.specs.Opcodes.{beside, field_actions}
use Rattle.je_instr.specs.Resolves.{FieldOperation}
use Rattle.je_machine.specs.Action.{Field}
use Rattle.je_machine.specs.Operation.{Do, Act}
use Rattle.je_link.proofs.NameLemmas.{named_here}
use Rattle.je_link.proofs.fields.field.Goals as goal

pub returns-in-Some-2 : goal.returns-in-Some-2
returns-in-Some-2 c = λ o h.
    let opcode = c.args.opcode in
    let x = named_here c.args.consts.now c.args.index (FieldOperation opcode o) c.in-Some.content (sym c.in_ok-content.ensures ∙ c.in-Some.is) h in
    let found = c.in_ok-field.ensures x.0 x.1 in
    let same : x.0 ≡ c.in-Some-2.field = cc (found, c.in-Some-2.is) in
    c.field_action.ensures ∙ subst (λ (f : Field). option_map (λ make. Do (Act (make f))) (beside field_actions opcode) ≡ Some o) same x.2

pub returns : goal.returns
returns c = λ o h.
    let x = named_here c.args.consts.now c.args.index (FieldOperation c.args.opcode o) c.in-Some.content (sym c.in_ok-content.ensures ∙ c.in-Some.is) h in
    let found = c.in_ok-field.ensures x.0 x.1 in
    absurd (cc (found, c.in-None.is))
