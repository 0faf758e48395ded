use Rattle.je_world.specs.Search as search
use Rattle.je_world.proofs.LeadsLemmas.{no_memory}
use Rattle.je_members.proofs.WalkLemmas.{side_by, side_breaks, all_sides}
use Rattle.je_members.proofs.walk.sides.Goals as goal

pub returns-in_default-put_before : goal.returns-in_default-put_before
returns-in_default-put_before g c = no_memory c.loop-class.invariant

pub returns-in-Ok-Bad : goal.returns-in-Ok-Bad
returns-in-Ok-Bad g c =
    side_by c.args.sought.now c.loop-class.below c.loop-class.gone
    c.loop-class.left.now c.in-Some.class.now c.in-Some.rest.now
    (search.Bad c.in-Ok-Bad.bad) c.in-Some.ensures.cases.0 c.loop-class.invariant
    (rw (c.as_slice-in-Some.ensures, c.in-Ok.ensures, c.as_slice.ensures, c.as_slice-up.ensures, c.in-Ok-Bad.field-0-is)
    at c.in-Ok-Bad.ensures)

pub returns-in-Ok-Met : goal.returns-in-Ok-Met
returns-in-Ok-Met g c =
    side_by c.args.sought.now c.loop-class.below c.loop-class.gone
    c.loop-class.left.now c.in-Some.class.now c.in-Some.rest.now
    (search.Decided c.in-Ok-Met.name) c.in-Some.ensures.cases.0 c.loop-class.invariant
    (rw (c.as_slice-in-Some.ensures, c.in-Ok.ensures, c.as_slice.ensures, c.as_slice-up.ensures, c.in-Ok-Met.field-0-is)
    at c.in-Ok-Met.ensures)

pub returns-in-Err : goal.returns-in-Err
returns-in-Err g c =
    side_breaks c.args.sought.now c.loop-class.below c.loop-class.gone
    c.loop-class.left.now c.in-Some.class.now c.in-Some.rest.now
    c.in-Err.why c.in-Some.ensures.cases.0 c.loop-class.invariant
    (rw (c.as_slice-in-Some.ensures, c.in-Ok.ensures, c.as_slice.ensures, c.as_slice-up.ensures)
    at c.in-Err.ensures)

pub loop-class-preserved : goal.loop-class-preserved
loop-class-preserved g c =
    rw (c.in-Ok.ensures, c.as_slice.ensures)
    (side_by c.args.sought.now c.loop-class.below c.loop-class.gone
    c.loop-class.left.now c.in-Some.class.now c.in-Some.rest.now
    (search.Went c.in-Ok-Went.names) c.in-Some.ensures.cases.0 c.loop-class.invariant
    (rw (c.as_slice-in-Some.ensures, c.in-Ok.ensures, c.as_slice.ensures, c.as_slice-up.ensures, c.in-Ok-Went.field-0-is)
    at c.in-Ok-Went.ensures))

pub returns : goal.returns
returns g c =
    all_sides c.args.sought.now c.loop-class.below c.loop-class.gone c.loop-class.left.now
    c.in_default.ensures.cases c.loop-class.invariant
