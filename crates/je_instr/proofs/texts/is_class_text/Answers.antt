use Rattle.std.proofs.Common.{inl}
use Rattle.je_instr.proofs.TextLemmas.{class_text_is}
use Rattle.je_instr.proofs.texts.is_class_text.Goals as goal

pub returns-then-is_class_name : goal.returns-then-is_class_name
returns-then-is_class_name c = (λ h. class_text_is c.args.text.now (inl (c.is_class_name.ensures.0 c.if-is_class_name.true)), λ k. c.if-is_class_name.true)
