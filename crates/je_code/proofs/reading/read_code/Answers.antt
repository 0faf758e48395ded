use Rattle.je_code.proofs.AttrLemmas.{fault_only, fault_exact}
use Rattle.je_code.proofs.WithinLemmas.{rows_within}
use Rattle.je_code.proofs.reading.read_code.Goals as goal

pub returns-in-Ok-clause-only : goal.returns-in-Ok-clause-only
returns-in-Ok-clause-only c a is = c.one_code.ensures.same c.args.consts.now c.args.info.now c.in-Ok.attr a c.in-Ok.ensures.found is

pub returns-in-Ok-clause-exact : goal.returns-in-Ok-clause-exact
returns-in-Ok-clause-exact c f first = c.one_code.ensures.no_fault c.args.consts.now c.args.info.now c.in-Ok.attr f c.in-Ok.ensures.found first

pub returns-in-Ok-clause-rows : goal.returns-in-Ok-clause-rows
returns-in-Ok-clause-rows c =
    let is = c.in-Ok.ensures.found in
    rows_within c.args.consts.now c.args.info.now c.in-Ok.attr is (c.offsets_rise.ensures.count c.args.consts.now is.code.code is.code.handlers c.in-Ok.attr.decoded is.decodes)
    (λ i j. c.offsets_rise.ensures.rise c.args.consts.now is.code.code is.code.handlers c.in-Ok.attr.decoded i j is.decodes)

pub returns-in-Err-clause-only : goal.returns-in-Err-clause-only
returns-in-Err-clause-only c a is = fault_only c.args.consts.now c.args.info.now (c.one_code.ensures.no_fault c.args.consts.now c.args.info.now) c.in-Err.fault c.in-Err.ensures.fault a is

pub returns-in-Err-clause-exact : goal.returns-in-Err-clause-exact
returns-in-Err-clause-exact c f first = fault_exact c.args.consts.now c.args.info.now (c.one_code.ensures.one_fault c.args.consts.now c.args.info.now) c.in-Err.fault c.in-Err.ensures.fault f first
