use Rattle.je_world.specs.Search as search
use Rattle.je_world.proofs.LeadsLemmas.{no_memory}
use Rattle.je_members.proofs.CallLemmas.{gone_up, up_breaks}
use Rattle.je_members.proofs.common.superclasses.Goals as goal

pub returns-in-Ok-names_of : goal.returns-in-Ok-names_of
returns-in-Ok-names_of g c =
    rw (c.in-Ok-names_of.ensures, c.as_slice-in-Ok-Went.ensures)
    (gone_up c.args.name.now (search.Went c.in-Ok-Went.classes)
    (rw (c.as_slice.ensures, c.new-none.ensures, c.in-Ok.ensures, c.in-Ok-Went.field-0-is)
    at c.in-Ok-Went.ensures))

pub returns-in-Ok-Went : goal.returns-in-Ok-Went
returns-in-Ok-Went g c =
    no_memory
    (gone_up c.args.name.now (search.Went c.in-Ok-Went.classes)
    (rw (c.as_slice.ensures, c.new-none.ensures, c.in-Ok.ensures, c.in-Ok-Went.field-0-is)
    at c.in-Ok-Went.ensures))

pub returns-in-Ok-Bad : goal.returns-in-Ok-Bad
returns-in-Ok-Bad g c =
    gone_up c.args.name.now (search.Bad c.in-Ok-Bad.bad)
    (rw (c.as_slice.ensures, c.new-none.ensures, c.in-Ok.ensures, c.in-Ok-Bad.field-0-is)
    at c.in-Ok-Bad.ensures)

pub returns-in-Ok-Met : goal.returns-in-Ok-Met
returns-in-Ok-Met g c =
    rw c.new-none.ensures
    (gone_up c.args.name.now (search.Decided c.in-Ok-Met.field-0-0)
    (rw (c.as_slice.ensures, c.new-none.ensures, c.in-Ok.ensures, c.in-Ok-Met.field-0-is)
    at c.in-Ok-Met.ensures))

pub returns : goal.returns
returns g c =
    up_breaks c.args.name.now c.in-Err.why
    (rw (c.as_slice.ensures, c.new-none.ensures, c.in-Ok.ensures) at c.in-Err.ensures)
