use Rattle.std.proofs.Common.{◌+◌, arith, add-zero, add_assoc}
use Rattle.je_desc.proofs.Slices.{first_and_rest}
use Rattle.je_desc.proofs.MethodFronts.{no_params, end_front, end_leaves, more_leaves, front_of-goes, step_front, step_leaves}
use Rattle.je_desc.proofs.method.after_params.Goals as goal

pub returns-then-first-eq41-clause-some : goal.returns-then-first-eq41-clause-some
returns-then-first-eq41-clause-some c =
    let bytes = c.loop-rest.rest.now in
    let split = first_and_rest bytes c.in-len1-up.len_at_least in
    (c.loop-rest.invariant.most, rw add-zero at (c.loop-rest.invariant.whole 0 _ (end_front bytes _ _ split c.if-first-eq41.true)))

pub returns-then-first-eq41-clause-only : goal.returns-then-first-eq41-clause-only
returns-then-first-eq41-clause-only c = λ n x most front.
    let bytes = c.loop-rest.rest.now in
    let split = first_and_rest bytes c.in-len1-up.len_at_least in
    let left = c.loop-rest.invariant.left n x front in
    let ends = end_leaves bytes _ _ split left.0 x c.if-first-eq41.true left.2 in
    (omega (arith, left.1, ends.0), ends.1)

pub returns-in_err-next-clause-only : goal.returns-in_err-next-clause-only
returns-in_err-next-clause-only c = λ n x most front.
    let bytes = c.loop-rest.rest.now in
    let split = first_and_rest bytes c.in-len1-up.len_at_least in
    let left = c.loop-rest.invariant.left n x front in
    let goes = more_leaves bytes _ _ split left.0 x c.if-first-eq41.false left.2 in
    absurd (c.in_err-next.ensures.only goes.after (front_of-goes bytes left.0 x goes))

pub returns-then-units-gt-MOST_UNITS-clause-only :
    goal.returns-then-units-gt-MOST_UNITS-clause-only
returns-then-units-gt-MOST_UNITS-clause-only c = λ n x most front.
    let bytes = c.loop-rest.rest.now in
    let split = first_and_rest bytes c.in-len1-up.len_at_least in
    let left = c.loop-rest.invariant.left n x front in
    let more = step_leaves bytes _ _ c.in_ok-next.next.now c.units_at-units.result split c.units_at-units.ensures c.if-first-eq41.false c.in_ok-next.ensures.only left.0 x left.2 in
    omega (arith, left.1, more.1)

pub loop-rest-preserved : goal.loop-rest-preserved
loop-rest-preserved c =
    let bytes = c.loop-rest.rest.now in
    let split = first_and_rest bytes c.in-len1-up.len_at_least in
    record {
      most = omega arith;
      whole = λ n x front.
          let one = step_front bytes _ _ c.in_ok-next.next.now c.units_at-units.result split c.units_at-units.ensures c.in_ok-next.ensures.some n x front in
          rw add_assoc (c.loop-rest.invariant.whole (c.units_at-units.result + n) x one);
      left = λ m x front.
          let left = c.loop-rest.invariant.left m x front in
          let more = step_leaves bytes _ _ c.in_ok-next.next.now c.units_at-units.result split c.units_at-units.ensures c.if-first-eq41.false c.in_ok-next.ensures.only left.0 x left.2 in
          (more.0, omega (arith, left.1, more.1), more.2);
    }

pub returns-clause-only : goal.returns-clause-only
returns-clause-only c = λ n x most front.
    let left = c.loop-rest.invariant.left n x front in
    no_params c.loop-rest.rest.now left.0 x (omega arith) left.2
