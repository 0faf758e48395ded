use Rattle.std.specs.Prelude.{IsTrue}
use Rattle.je_fit.proofs.FrameLemmas.{to_frame}
use Rattle.je_fit.proofs.StepLemmas.{instruction_keeps, leads, reached_fits}
use Rattle.je_fit.proofs.steps.instructions_keep.Goals as goal

pub returns-clause-keeps : goal.returns-clause-keeps
returns-clause-keeps c = λ m x classes at o frame outside sound formed there fit. instruction_keeps m x sound formed classes at o frame outside there fit

pub returns-clause-leads : goal.returns-clause-leads
returns-clause-leads c = λ ok at classes o frame outside all. leads (λ to. IsTrue (ok to)) at classes o frame outside all

pub returns-clause-arrives : goal.returns-clause-arrives
returns-clause-arrives c = λ m x to s frame sound inside reaches fit. reached_fits m x sound to s frame (to_frame s frame fit) inside reaches
