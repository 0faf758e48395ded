use Rattle.je_world.specs.Search as search
use Rattle.je_members.proofs.CallLemmas.{first_met, first_breaks}
use Rattle.je_members.proofs.ReadLemmas.{found_object}
use Rattle.je_members.proofs.common.first_above.Goals as goal

pub returns-in-Ok-Went : goal.returns-in-Ok-Went
returns-in-Ok-Went g c =
    found_object c.object_found.result c.object_found.ensures.ok c.object_found.ensures.err
    (first_met c.args.names.now c.args.name.now (search.Went c.in-Ok-Went.field-0-0)
    (rw (c.in-Ok.ensures, c.in-Ok-Went.field-0-is) at c.in-Ok-Went.ensures))

pub returns-in-Ok-Bad : goal.returns-in-Ok-Bad
returns-in-Ok-Bad g c =
    first_met c.args.names.now c.args.name.now (search.Bad c.in-Ok-Bad.bad)
    (rw (c.in-Ok.ensures, c.in-Ok-Bad.field-0-is) at c.in-Ok-Bad.ensures)

pub returns-in-Ok-Met : goal.returns-in-Ok-Met
returns-in-Ok-Met g c =
    first_met c.args.names.now c.args.name.now (search.Decided c.in-Ok-Met.name)
    (rw (c.in-Ok.ensures, c.in-Ok-Met.field-0-is) at c.in-Ok-Met.ensures)

pub returns : goal.returns
returns g c =
    first_breaks c.args.names.now c.args.name.now c.in-Err.why
    (rw c.in-Ok.ensures at c.in-Err.ensures)
