use Rattle.je_instr.specs.Content.{content_at}
use Rattle.je_instr.proofs.ConstLemmas.{wide_in}
use Rattle.je_instr.proofs.calls.is_ldc2.Goals as goal

pub returns : goal.returns
returns c = wide_in (content_at c.args.consts.now c.args.index) c.is_wide.result c.is_wide.ensures
