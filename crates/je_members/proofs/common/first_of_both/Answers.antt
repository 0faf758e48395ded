use Rattle.std.proofs.Common.{Ok, Err}
use Rattle.je_world.proofs.LeadsLemmas.{gives_on}
use Rattle.je_members.specs.Common.{superclasses, first_above}
use Rattle.je_members.proofs.ReadLemmas.{tried, try_breaks}
use Rattle.je_members.proofs.common.first_of_both.Goals as goal

pub returns-in-Ok-Ok : goal.returns-in-Ok-Ok
returns-in-Ok-Ok g c =
    gives_on (g.W.World.seen c.first_above.new.world) c.first_above.result
    (tried (superclasses c.args.b.now) (λ names. first_above names c.args.a.now)
    (Ok c.in-Ok-Ok.names) (rw c.in-Ok-Ok.field-0-is at c.in-Ok-Ok.ensures))
    (rw c.as_slice.ensures at c.first_above.ensures)

pub returns-in-Ok-Err : goal.returns-in-Ok-Err
returns-in-Ok-Err g c =
    tried (superclasses c.args.b.now) (λ names. first_above names c.args.a.now)
    (Err c.in-Ok-Err.bad) (rw c.in-Ok-Err.field-0-is at c.in-Ok-Err.ensures)

pub returns-in-Err : goal.returns-in-Err
returns-in-Err g c =
    try_breaks (superclasses c.args.b.now) (λ names. first_above names c.args.a.now)
    c.in-Err.why c.in-Err.ensures
