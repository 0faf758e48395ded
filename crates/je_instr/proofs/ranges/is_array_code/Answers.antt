use Rattle.std.proofs.Common.{arith}
use Rattle.je_instr.proofs.TestLemmas.{array_tested}
use Rattle.je_instr.proofs.ranges.is_array_code.Goals as goal

pub returns : goal.returns
returns c = array_tested c.args.code c.array_test.result (omega (arith, c.ranges.code.fits)) c.array_test.ensures
