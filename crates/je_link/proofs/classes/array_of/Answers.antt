use Rattle.std.proofs.Common.{◌≤◌, subst, arith}
use Rattle.je_desc.specs.FieldType.{FieldType, dimensions}
use Rattle.je_value.specs.FieldType.{element_in}
use Rattle.je_link.proofs.TypeLemmas.{dimensions_within}
use Rattle.je_link.proofs.classes.array_of.Goals as goal

pub overflow_add-dimensions : goal.overflow_add-dimensions
overflow_add-dimensions c =
    let parts = c.parts-dimensions.result in
    let small : parts.0 ≤ 255 = dimensions_within parts.0 (element_in parts.1.now) (subst (λ (t : FieldType). dimensions t ≤ 255) c.parts-dimensions.ensures c.requires) in
    omega (arith, small)
