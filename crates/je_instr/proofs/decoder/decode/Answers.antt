use Rattle.je_instr.proofs.DecodeLemmas.{same_decoded, decoded_no_fault, fault_only, fault_exact}
use Rattle.je_instr.proofs.decoder.decode.Goals as goal

pub returns-in-Ok-clause-only : goal.returns-in-Ok-clause-only
returns-in-Ok-clause-only c d is = same_decoded c.args.consts.now c.args.code.now c.args.table.now c.in-Ok.program d c.in-Ok.ensures.found is

pub returns-in-Ok-clause-exact : goal.returns-in-Ok-clause-exact
returns-in-Ok-clause-exact c f first = decoded_no_fault c.args.consts.now c.args.code.now c.args.table.now c.in-Ok.program f c.in-Ok.ensures.found first

pub returns-in-Err-clause-only : goal.returns-in-Err-clause-only
returns-in-Err-clause-only c d is = fault_only c.args.consts.now c.args.code.now c.args.table.now d c.in-Err.fault c.in-Err.ensures.fault is

pub returns-in-Err-clause-exact : goal.returns-in-Err-clause-exact
returns-in-Err-clause-exact c f first = fault_exact c.args.consts.now c.args.code.now c.args.table.now c.in-Err.fault f c.in-Err.ensures.fault first
