use Rattle.std.proofs.Common.{arith}
use Rattle.je_instr.proofs.TestLemmas.{local_tested}
use Rattle.je_instr.proofs.ranges.is_local.Goals as goal

pub returns : goal.returns
returns c = local_tested c.args.opcode c.local_test.result (omega (arith, c.ranges.opcode.fits)) c.local_test.ensures
