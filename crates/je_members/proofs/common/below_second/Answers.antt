use Rattle.std.proofs.Common.{cond, true, false, Ok, Err}
use Rattle.je_world.specs.Question.{Answered}
use Rattle.je_world.proofs.LeadsLemmas.{gives_on}
use Rattle.je_members.specs.Common.{first_of_both, asks_interface, object}
use Rattle.je_members.proofs.ReadLemmas.{tried, try_breaks, found_object}
use Rattle.je_members.proofs.common.below_second.Goals as goal

pub returns-in-Ok-Ok-true : goal.returns-in-Ok-Ok-true
returns-in-Ok-Ok-true g c =
    found_object c.object_found.result c.object_found.ensures.ok c.object_found.ensures.err
    (tried (asks_interface c.args.b.now)
    (λ yes. cond yes (Answered (Ok object)) (first_of_both c.args.a.now c.args.b.now))
    (Ok true)
    (rw (c.in-Ok-Ok-true.field-0-is, c.in-Ok-Ok-true.field-0-0-test) at c.in-Ok-Ok-true.ensures))

pub returns-in-Ok-Ok-false : goal.returns-in-Ok-Ok-false
returns-in-Ok-Ok-false g c =
    gives_on (g.W.World.seen c.first_of_both.new.world) c.first_of_both.result
    (tried (asks_interface c.args.b.now)
    (λ yes. cond yes (Answered (Ok object)) (first_of_both c.args.a.now c.args.b.now))
    (Ok false)
    (rw (c.in-Ok-Ok-false.field-0-is, c.in-Ok-Ok-false.field-0-0-test)
    at c.in-Ok-Ok-false.ensures))
    c.first_of_both.ensures

pub returns-in-Ok-Err : goal.returns-in-Ok-Err
returns-in-Ok-Err g c =
    tried (asks_interface c.args.b.now)
    (λ yes. cond yes (Answered (Ok object)) (first_of_both c.args.a.now c.args.b.now))
    (Err c.in-Ok-Err.bad) (rw c.in-Ok-Err.field-0-is at c.in-Ok-Err.ensures)

pub returns-in-Err : goal.returns-in-Err
returns-in-Err g c =
    try_breaks (asks_interface c.args.b.now)
    (λ yes. cond yes (Answered (Ok object)) (first_of_both c.args.a.now c.args.b.now))
    c.in-Err.why c.in-Err.ensures
