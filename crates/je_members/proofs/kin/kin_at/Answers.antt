use Rattle.je_world.specs.declared.stop.Stop.TheVariants.{Failed, Memory}
use Rattle.je_world.specs.Question.{Absent, Broken, IsClass}
use Rattle.je_members.proofs.KinLemmas.{kin_is, kin_none, kin_broken, kin_full, kin_stops}
use Rattle.je_members.proofs.kin.kin_at.Goals as goal

pub returns-in-Ok : goal.returns-in-Ok
returns-in-Ok g c =
    kin_is c.in-Ok-Some.class.now c.in-Ok.ensures
    (rw (c.in-Ok-Some.is, c.in-Ok-Some.field-0-is) at c.look.follows.holds-at-none.0)

pub returns-in-Err : goal.returns-in-Err
returns-in-Err g c =
    kin_full (IsClass c.in-Ok-Some.class.now)
    (rw (c.in-Ok-Some.is, c.in-Ok-Some.field-0-is) at c.look.follows.holds-at-none.0)

pub returns-in-Ok-copy : goal.returns-in-Ok-copy
returns-in-Ok-copy g c =
    kin_none c.in-Ok-copy.ensures
    (rw (c.in-Ok-None.is, c.in-Ok-None.field-0-is) at c.look.follows.holds-at-none.0)

pub returns-in-Err-copy : goal.returns-in-Err-copy
returns-in-Err-copy g c =
    kin_full Absent
    (rw (c.in-Ok-None.is, c.in-Ok-None.field-0-is) at c.look.follows.holds-at-none.0)

pub returns-in-Ok-copy-2 : goal.returns-in-Ok-copy-2
returns-in-Ok-copy-2 g c =
    kin_broken c.in-Ok-copy-2.ensures
    (rw (c.in-Err-Broken.is, c.in-Err-Broken.field-0-is) at c.look.follows.holds-at-none.0)

pub returns-in-Err-copy-2 : goal.returns-in-Err-copy-2
returns-in-Err-copy-2 g c =
    kin_full Broken
    (rw (c.in-Err-Broken.is, c.in-Err-Broken.field-0-is) at c.look.follows.holds-at-none.0)

pub returns-in-Err-Failed : goal.returns-in-Err-Failed
returns-in-Err-Failed g c =
    kin_stops Failed
    (rw (c.in-Err-Failed.is, c.in-Err-Failed.field-0-is) at c.look.follows.holds-at-none.0)

pub returns-in-Err-Memory : goal.returns-in-Err-Memory
returns-in-Err-Memory g c =
    kin_stops Memory
    (rw (c.in-Err-Memory.is, c.in-Err-Memory.field-0-is) at c.look.follows.holds-at-none.0)
