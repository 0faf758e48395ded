use Rattle.je_world.specs.Search as search
use Rattle.je_members.proofs.CallLemmas.{subtyped, subtype_breaks}
use Rattle.je_members.proofs.subtype.is_subtype.Goals as goal

pub returns-in-Ok-Went : goal.returns-in-Ok-Went
returns-in-Ok-Went g c =
    subtyped c.args.sub.now c.args.sup.now (search.Went c.in-Ok-Went.field-0-0)
    (rw (c.as_slice.ensures, c.in-Ok.ensures, c.new.ensures, c.in-Ok-copy.ensures, c.in-Ok-Went.field-0-is)
    at c.in-Ok-Went.ensures)

pub returns-in-Ok-Bad : goal.returns-in-Ok-Bad
returns-in-Ok-Bad g c =
    subtyped c.args.sub.now c.args.sup.now (search.Bad c.in-Ok-Bad.bad)
    (rw (c.as_slice.ensures, c.in-Ok.ensures, c.new.ensures, c.in-Ok-copy.ensures, c.in-Ok-Bad.field-0-is)
    at c.in-Ok-Bad.ensures)

pub returns-in-Ok-Met : goal.returns-in-Ok-Met
returns-in-Ok-Met g c =
    subtyped c.args.sub.now c.args.sup.now (search.Decided c.in-Ok-Met.field-0-0)
    (rw (c.as_slice.ensures, c.in-Ok.ensures, c.new.ensures, c.in-Ok-copy.ensures, c.in-Ok-Met.field-0-is)
    at c.in-Ok-Met.ensures)

pub returns : goal.returns
returns g c =
    subtype_breaks c.args.sub.now c.args.sup.now c.in-Err.why
    (rw (c.as_slice.ensures, c.in-Ok.ensures, c.new.ensures, c.in-Ok-copy.ensures) at c.in-Err.ensures)
