use Rattle.je_instr.proofs.TestLemmas.{simple_tested}
use Rattle.je_instr.proofs.ranges.is_simple.Goals as goal

pub returns : goal.returns
returns c = simple_tested c.args.opcode c.simple_test.result c.simple_test.ensures
