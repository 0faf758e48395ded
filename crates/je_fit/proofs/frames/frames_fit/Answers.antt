use Rattle.je_fit.proofs.FrameLemmas.{to_locals, from_locals, to_frame, from_frame}
use Rattle.je_fit.proofs.StepLemmas.{below_fits, agreeing_fits}
use Rattle.je_fit.proofs.frames.frames_fit.Goals as goal

pub returns-clause-locals : goal.returns-clause-locals
returns-clause-locals c = λ slots locals. (to_locals slots locals, from_locals slots locals)

pub returns-clause-above : goal.returns-clause-above
returns-clause-above c = λ s t f below fit. from_frame t f (below_fits s t f below (to_frame s f fit))

pub returns-clause-agrees : goal.returns-clause-agrees
returns-clause-agrees c = λ s t f agrees fit. from_frame t f (agreeing_fits s t f agrees (to_frame s f fit))
