use Rattle.je_world.specs.declared.stop.Stop.TheVariants.{Failed, Memory}
use Rattle.je_world.specs.Question.{Absent, Broken}
use Rattle.je_members.specs.Common.{is_interface}
use Rattle.je_members.proofs.ReadLemmas.{read_is, read_none, read_broken, read_full, read_stops}
use Rattle.je_members.proofs.common.asks_interface.Goals as goal

pub returns-in-Ok-Some : goal.returns-in-Ok-Some
returns-in-Ok-Some g c =
    read_is c.args.name.now is_interface c.in-Ok-Some.class.now c.is_interface.ensures
    (rw (c.in-Ok-Some.is, c.in-Ok-Some.field-0-is) at c.look.follows.holds-at-none.0)

pub returns-in-Ok : goal.returns-in-Ok
returns-in-Ok g c =
    read_none c.args.name.now is_interface c.in-Ok.ensures (rw (c.in-Ok-None.is, c.in-Ok-None.field-0-is) at c.look.follows.holds-at-none.0)

pub returns-in-Err : goal.returns-in-Err
returns-in-Err g c =
    read_full c.args.name.now is_interface Absent (rw (c.in-Ok-None.is, c.in-Ok-None.field-0-is) at c.look.follows.holds-at-none.0)

pub returns-in-Ok-copy : goal.returns-in-Ok-copy
returns-in-Ok-copy g c =
    read_broken c.args.name.now is_interface c.in-Ok-copy.ensures (rw (c.in-Err-Broken.is, c.in-Err-Broken.field-0-is) at c.look.follows.holds-at-none.0)

pub returns-in-Err-copy : goal.returns-in-Err-copy
returns-in-Err-copy g c =
    read_full c.args.name.now is_interface Broken (rw (c.in-Err-Broken.is, c.in-Err-Broken.field-0-is) at c.look.follows.holds-at-none.0)

pub returns-in-Err-Failed : goal.returns-in-Err-Failed
returns-in-Err-Failed g c =
    read_stops c.args.name.now is_interface Failed (rw (c.in-Err-Failed.is, c.in-Err-Failed.field-0-is) at c.look.follows.holds-at-none.0)

pub returns-in-Err-Memory : goal.returns-in-Err-Memory
returns-in-Err-Memory g c =
    read_stops c.args.name.now is_interface Memory (rw (c.in-Err-Memory.is, c.in-Err-Memory.field-0-is) at c.look.follows.holds-at-none.0)
