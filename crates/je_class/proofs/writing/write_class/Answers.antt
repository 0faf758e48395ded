use Rattle.std.proofs.Common.{ℕ, List, ◌++◌, sym, ap, subst, ◌∙◌}
use Rattle.je_class.specs.FileParts.{spelled, class_parts}
use Rattle.je_class.specs.InMemory.{class_of_parts}
use Rattle.je_class.specs.Sizes.{FitsClass}
use Rattle.je_class.proofs.Sounds.{FitsClass-sound}
use Rattle.je_class.proofs.writing.write_class.Goals as goal

pub put_parts-requires : goal.put_parts-requires
put_parts-requires c = subst FitsClass (sym c.parts.ensures.parts) (FitsClass-sound c.args.class.now c.parts.ensures.sound)

pub returns-clause-bytes : goal.returns-clause-bytes
returns-clause-bytes c =
    let put = c.in_ok-put_parts.ensures ∙ ap (λ (front : List ℕ). front ++ spelled (class_parts (class_of_parts c.parts.result.now))) c.new-out.ensures.items in
    record { layout = put ∙ ap (λ d. spelled (class_parts d)) c.parts.ensures.parts; sound = c.parts.ensures.sound }

pub returns-clause-again : goal.returns-clause-again
returns-clause-again c bytes spells =
    let put = c.in_ok-put_parts.ensures ∙ ap (λ (front : List ℕ). front ++ spelled (class_parts (class_of_parts c.parts.result.now))) c.new-out.ensures.items in
    put ∙ ap (λ d. spelled (class_parts d)) c.parts.ensures.parts ∙ sym spells.layout
