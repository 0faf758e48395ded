use Rattle.je_desc.specs.FieldType.{FieldType}
use Rattle.je_instr.specs.Allowed.{HasDimensions}
use Rattle.je_instr.specs.Content.{content_at}
use Rattle.je_instr.proofs.ConstLemmas.{class_in, class_no}
use Rattle.je_instr.proofs.calls.is_sized.Goals as goal

pub returns-in-Some : goal.returns-in-Some
returns-in-Some c = class_in (content_at c.args.consts.now c.args.index) (λ text. (t : FieldType) × HasDimensions c.args.count text t) c.in-Some.text.now c.has_dimensions.result c.in-Some.ensures (rw c.bytes.ensures.bytes at c.has_dimensions.ensures)

pub returns-in-None : goal.returns-in-None
returns-in-None c = (λ h. absurd cc, λ k. absurd (class_no (content_at c.args.consts.now c.args.index) (λ text. (t : FieldType) × HasDimensions c.args.count text t) c.in-None.ensures k))
