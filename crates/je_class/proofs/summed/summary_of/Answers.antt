use Rattle.std.proofs.Common.{sym, subst}
use Rattle.std.specs.List.{AllByRecursion}
use Rattle.je_class.specs.Class.{Class, IsClassIndex}
use Rattle.je_class.specs.Signatures.{HasTexts}
use Rattle.je_class.proofs.Sounds.{interfaces-named, fields-named, methods-named}
use Rattle.je_class.proofs.summed.summary_of.Goals as goal

pub names_of-requires : goal.names_of-requires
names_of-requires c = rw c.deref.ensures.value (subst (λ (class : Class). AllByRecursion (IsClassIndex class.consts) class.interfaces) (sym c.parts-parts.ensures.parts) (interfaces-named c.args.class.now c.parts-parts.ensures.sound))

pub signatures_of-requires : goal.signatures_of-requires
signatures_of-requires c = rw c.deref-2.ensures.value (subst (λ (class : Class). AllByRecursion (HasTexts class.consts) class.fields) (sym c.parts-parts.ensures.parts) (fields-named c.args.class.now c.parts-parts.ensures.sound))

pub signatures_of-requires-2 : goal.signatures_of-requires-2
signatures_of-requires-2 c = rw c.deref-3.ensures.value (subst (λ (class : Class). AllByRecursion (HasTexts class.consts) class.methods) (sym c.parts-parts.ensures.parts) (methods-named c.args.class.now c.parts-parts.ensures.sound))
