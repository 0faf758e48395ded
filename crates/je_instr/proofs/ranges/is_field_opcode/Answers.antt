use Rattle.std.proofs.Common.{arith}
use Rattle.je_instr.proofs.TestLemmas.{field_tested}
use Rattle.je_instr.proofs.ranges.is_field_opcode.Goals as goal

pub returns : goal.returns
returns c = field_tested c.args.opcode c.field_test.result (omega (arith, c.ranges.opcode.fits)) c.field_test.ensures
