use Rattle.std.proofs.Common.{[]}
use Rattle.je_calls.proofs.ShapeLemmas.{same_method, no_fault}
use Rattle.je_calls.proofs.reach.shapes_of.Goals as goal

pub returns-in-Err-BadCode-clause-bad : goal.returns-in-Err-BadCode-clause-bad
returns-in-Err-BadCode-clause-bad c = λ e program x has faultless.
    no_fault c.one_least.ensures.faults _ _
    (same_method c.args.class_name.now c.args.consts.now c.args.p.now c.args.is_static c.args.is_init c.args.types.now [] program c.in_ok-entry.entry c.in_ok-entry.ensures) c.in-Err-BadCode.field-0-0
    (c.in-Err-BadCode.ensures.bad c.in-Err-BadCode.field-0-0 program (let h = c.in-Err-BadCode.field-0-is in cc) has) x faultless
