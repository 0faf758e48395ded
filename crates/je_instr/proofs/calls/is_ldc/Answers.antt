use Rattle.std.proofs.Common.{sym, ◌∙◌}
use Rattle.je_instr.specs.Content.{content_at}
use Rattle.je_instr.proofs.ConstLemmas.{loaded_in}
use Rattle.je_instr.proofs.calls.is_ldc.Goals as goal

pub returns-then-is_loaded : goal.returns-then-is_loaded
returns-then-is_loaded c = (λ h. loaded_in (content_at c.args.consts.now c.args.index) (sym c.is_loaded.ensures ∙ c.if-is_loaded.true), λ k. c.if-is_loaded.true)
