use Rattle.je_fit.proofs.FrameLemmas.{to_frame, from_frame}
use Rattle.je_fit.proofs.FlowLemmas.{perform_fits}
use Rattle.je_fit.proofs.StepLemmas.{handler_fits}
use Rattle.je_fit.proofs.flows.flows_fit.Goals as goal

pub returns-clause-performed : goal.returns-clause-performed
returns-clause-performed c = λ ops own at classes o s frame outside operands serves fit. perform_fits ops own at classes o s frame outside operands serves (to_frame s frame fit)

pub returns-clause-caught : goal.returns-clause-caught
returns-clause-caught c = λ h s frame v r fit. from_frame _ _ (handler_fits h s frame v r (to_frame s frame fit))
