use Rattle.std.proofs.Common.{arith}
use Rattle.je_instr.proofs.TestLemmas.{condition_tested}
use Rattle.je_instr.proofs.ranges.is_condition.Goals as goal

pub returns : goal.returns
returns c = condition_tested c.args.opcode c.condition_test.result (omega (arith, c.ranges.opcode.fits)) c.condition_test.ensures
