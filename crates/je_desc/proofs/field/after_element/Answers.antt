use Rattle.je_desc.proofs.Slices.{first_and_rest, if_some_then}
use Rattle.je_desc.proofs.FieldFronts.{no_front, base_front, base_leaves, object_front, object_leaves, other_front}
use Rattle.je_desc.proofs.field.after_element.Goals as goal

pub returns-in_default-clause-only : goal.returns-in_default-clause-only
returns-in_default-clause-only c = λ x front. no_front 255 c.args.b.now x c.in_default.len_below front

pub returns-then-is_base-clause-some : goal.returns-then-is_base-clause-some
returns-then-is_base-clause-some c =
    base_front c.args.b.now _ _ (first_and_rest c.args.b.now c.in-len1-up.len_at_least) (c.is_base.ensures.0 c.if-is_base.true)

pub returns-then-is_base-clause-only : goal.returns-then-is_base-clause-only
returns-then-is_base-clause-only c = λ x front.
    base_leaves c.args.b.now _ _ (first_and_rest c.args.b.now c.in-len1-up.len_at_least) x (c.is_base.ensures.0 c.if-is_base.true) front

pub returns-then-first-eq76-clause-some : goal.returns-then-first-eq76-clause-some
returns-then-first-eq76-clause-some c =
    if_some_then _ _ c.after_name.result (λ rest. object_front c.args.b.now _ _ (first_and_rest c.args.b.now c.in-len1-up.len_at_least) rest.now c.if-first-eq76.true) c.after_name.ensures.some

pub returns-then-first-eq76-clause-only : goal.returns-then-first-eq76-clause-only
returns-then-first-eq76-clause-only c = λ x front.
    c.after_name.ensures.only x (object_leaves c.args.b.now _ _ (first_and_rest c.args.b.now c.in-len1-up.len_at_least) x c.if-first-eq76.true front)

pub returns-else-first-eq76-clause-only : goal.returns-else-first-eq76-clause-only
returns-else-first-eq76-clause-only c = λ x front.
    other_front c.args.b.now _ _ (first_and_rest c.args.b.now c.in-len1-up.len_at_least) x (λ base. cc (c.is_base.ensures.1 base, c.if-is_base.false)) c.if-first-eq76.false front
