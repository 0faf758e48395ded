use Rattle.std.proofs.Common.{[], ◌∷◌, refl}
use Rattle.std.proofs.lemmas.Bool.{false≢true}
use Rattle.je_class.specs.FileParts.{NamesClass, NamesSuper, NamesText, NamesAttribute, DescribesField, DescribesMethod}
use Rattle.je_class.proofs.Comes.{first_fails, second_fails, unless_fails}
use Rattle.je_class.proofs.check.fault_of.Goals as goal

pub returns-in-Class-clause-some : goal.returns-in-Class-clause-some
returns-in-Class-clause-some c =
    rw c.in-Class.is (unless_fails c.unless.result _ _ c.unless.ensures.some (λ no. first_fails c.args.at (NamesClass c.args.consts.now c.args.index) [] (λ h. no (c.names_class.ensures.1 h))))

pub returns-in-ClassOrNone-clause-some : goal.returns-in-ClassOrNone-clause-some
returns-in-ClassOrNone-clause-some c =
    rw c.in-ClassOrNone.is (unless_fails c.unless-in-ClassOrNone.result _ _ c.unless-in-ClassOrNone.ensures.some (λ no. first_fails c.args.at (NamesSuper c.args.consts.now c.args.index) [] (λ h. no (c.names_super.ensures.1 h))))

pub returns-in-Text-clause-some : goal.returns-in-Text-clause-some
returns-in-Text-clause-some c =
    rw c.in-Text.is (unless_fails c.unless-in-Text.result _ _ c.unless-in-Text.ensures.some (λ no. first_fails c.args.at (NamesText c.args.consts.now c.args.index) [] (λ h. no (c.names_text.ensures.1 h))))

pub returns-in-AttributeName-clause-some : goal.returns-in-AttributeName-clause-some
returns-in-AttributeName-clause-some c =
    rw c.in-AttributeName.is (unless_fails c.unless-in-AttributeName.result _ _ c.unless-in-AttributeName.ensures.some (λ no. first_fails c.args.at (NamesAttribute c.args.consts.now c.args.index) [] (λ h. no (c.names_text-in-AttributeName.ensures.1 h))))

pub returns-then-not-names_text-clause-some : goal.returns-then-not-names_text-clause-some
returns-then-not-names_text-clause-some c =
    rw c.in-FieldDescriptor.is (first_fails c.args.at (NamesText c.args.consts.now c.args.index) (DescribesField c.args.consts.now c.args.index ∷ []) (λ h. false≢true (c.if-not-names_text.ensures.1 h)))

pub returns-else-not-names_text-clause-some : goal.returns-else-not-names_text-clause-some
returns-else-not-names_text-clause-some c =
    let text = c.if-not-names_text.ensures.0 refl in
    rw c.in-FieldDescriptor.is (unless_fails c.unless-in-FieldDescriptor.result _ _ c.unless-in-FieldDescriptor.ensures.some (λ no. second_fails c.args.at (NamesText c.args.consts.now c.args.index) (DescribesField c.args.consts.now c.args.index) text (λ h. no (c.describes_field.ensures.1 h))))

pub returns-then-not-names_text-2-clause-some : goal.returns-then-not-names_text-2-clause-some
returns-then-not-names_text-2-clause-some c =
    rw c.in-MethodDescriptor.is (first_fails c.args.at (NamesText c.args.consts.now c.args.index) (DescribesMethod c.args.consts.now c.in-MethodDescriptor.access c.args.index ∷ []) (λ h. false≢true (c.if-not-names_text-2.ensures.1 h)))

pub returns-else-not-names_text-2-clause-some : goal.returns-else-not-names_text-2-clause-some
returns-else-not-names_text-2-clause-some c =
    let text = c.if-not-names_text-2.ensures.0 refl in
    rw c.in-MethodDescriptor.is (unless_fails c.unless-in-MethodDescriptor.result _ _ c.unless-in-MethodDescriptor.ensures.some (λ no. second_fails c.args.at (NamesText c.args.consts.now c.args.index) (DescribesMethod c.args.consts.now c.in-MethodDescriptor.access c.args.index) text (λ h. no (c.describes_method.ensures.1 h))))
