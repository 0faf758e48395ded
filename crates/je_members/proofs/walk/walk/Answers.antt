use Rattle.je_world.specs.Search as search
use Rattle.je_world.proofs.LeadsLemmas.{no_memory, gives_on}
use Rattle.je_members.specs.Ending.{ended}
use Rattle.je_members.proofs.WalkLemmas.{walked, walk_breaks}
use Rattle.je_members.proofs.walk.walk.Goals as goal

pub returns-in_default : goal.returns-in_default
returns-in_default g c =
    no_memory
    (walked c.args.sought.now c.args.first (search.Went c.in-Ok-Went.classes)
    (rw c.in-Ok-Went.field-0-is at c.in-Ok-Went.ensures))

pub returns-in-Ok : goal.returns-in-Ok
returns-in-Ok g c =
    gives_on (g.W.World.seen c.sides.new.world) (ended c.sides.result)
    (walked c.args.sought.now c.args.first (search.Went c.in-Ok-Went.classes)
    (rw c.in-Ok-Went.field-0-is at c.in-Ok-Went.ensures))
    (rw (c.as_slice-in-Ok-Went.ensures, c.in-Ok.ensures, c.as_slice.ensures) at c.sides.ensures)

pub returns-in-Ok-Bad : goal.returns-in-Ok-Bad
returns-in-Ok-Bad g c =
    walked c.args.sought.now c.args.first (search.Bad c.in-Ok-Bad.bad)
    (rw c.in-Ok-Bad.field-0-is at c.in-Ok-Bad.ensures)

pub returns-in-Ok-Met : goal.returns-in-Ok-Met
returns-in-Ok-Met g c =
    walked c.args.sought.now c.args.first (search.Decided c.in-Ok-Met.name)
    (rw c.in-Ok-Met.field-0-is at c.in-Ok-Met.ensures)

pub returns-in-Err : goal.returns-in-Err
returns-in-Err g c = walk_breaks c.args.sought.now c.args.first c.in-Err.why c.in-Err.ensures
