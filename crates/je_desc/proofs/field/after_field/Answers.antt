use Rattle.std.proofs.Common.{arith}
use Rattle.je_desc.proofs.Slices.{first_and_rest}
use Rattle.je_desc.proofs.FieldFronts.{no_front, array_front, element_leaves}
use Rattle.je_desc.proofs.field.after_field.Goals as goal
use Rattle.je_desc.proofs.field.after_field.Goals.{in_default, in_default-2}

pub returns-then-dimensions-eq-MOST_DIMENSIONS-clause-only :
    goal.returns-then-dimensions-eq-MOST_DIMENSIONS-clause-only
returns-then-dimensions-eq-MOST_DIMENSIONS-clause-only c = λ x front.
    let bytes = c.loop-rest.rest.now in
    let left = (array_front bytes _ _ (first_and_rest bytes c.in-91.len_at_least) c.loop-rest.dimensions x (omega arith)).1 ((c.loop-rest.invariant.left x).1 front) in
    omega (arith, left.within)

pub loop-rest-preserved : goal.loop-rest-preserved
loop-rest-preserved c = record {
  most = omega arith;
  left = λ x.
      let bytes = c.loop-rest.rest.now in
      let turn = array_front bytes _ _ (first_and_rest bytes c.in-91.len_at_least) c.loop-rest.dimensions x (omega arith) in
      (λ front. (c.loop-rest.invariant.left x).0 (turn.0 front), λ front. turn.1 ((c.loop-rest.invariant.left x).1 front));
}

pub returns-clause-only : goal.returns-clause-only
returns-clause-only c = λ x front.
    let bytes = c.loop-rest.rest.now in
    let left = (c.loop-rest.invariant.left x).1 front in
    elim c.if-rest-lt1.branch [
      | in_default w ↦ absurd (no_front c.loop-rest.dimensions bytes x (omega arith) left)
      | in_default-2 w ↦ c.after_element.ensures.only x (element_leaves bytes _ _ (first_and_rest bytes (omega arith)) c.loop-rest.dimensions x (λ e. omega arith) left)
    ]
