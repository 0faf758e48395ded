use Rattle.std.proofs.Common.{cond, true, false, Ok, Err}
use Rattle.je_world.specs.Question.{Answered}
use Rattle.je_world.proofs.LeadsLemmas.{gives_on}
use Rattle.je_members.specs.Common.{common_class, below_second, asks_interface, object}
use Rattle.je_members.proofs.ReadLemmas.{tried, try_breaks, found_object}
use Rattle.je_members.proofs.common.common_class.Goals as goal

pub returns-in-Ok-Ok-true : goal.returns-in-Ok-Ok-true
unfolding common_class
returns-in-Ok-Ok-true g c =
    found_object c.object_found.result c.object_found.ensures.ok c.object_found.ensures.err
    (tried (asks_interface c.args.a.now)
    (λ yes. cond yes (Answered (Ok object)) (below_second c.args.a.now c.args.b.now))
    (Ok true)
    (rw (c.in-Ok-Ok-true.field-0-is, c.in-Ok-Ok-true.field-0-0-test) at c.in-Ok-Ok-true.ensures))

pub returns-in-Ok-Ok-false : goal.returns-in-Ok-Ok-false
unfolding common_class
returns-in-Ok-Ok-false g c =
    gives_on (g.W.World.seen c.below_second.new.world) c.below_second.result
    (tried (asks_interface c.args.a.now)
    (λ yes. cond yes (Answered (Ok object)) (below_second c.args.a.now c.args.b.now))
    (Ok false)
    (rw (c.in-Ok-Ok-false.field-0-is, c.in-Ok-Ok-false.field-0-0-test)
    at c.in-Ok-Ok-false.ensures))
    c.below_second.ensures

pub returns-in-Ok-Err : goal.returns-in-Ok-Err
unfolding common_class
returns-in-Ok-Err g c =
    tried (asks_interface c.args.a.now)
    (λ yes. cond yes (Answered (Ok object)) (below_second c.args.a.now c.args.b.now))
    (Err c.in-Ok-Err.bad) (rw c.in-Ok-Err.field-0-is at c.in-Ok-Err.ensures)

pub returns-in-Err : goal.returns-in-Err
unfolding common_class
returns-in-Err g c =
    try_breaks (asks_interface c.args.a.now)
    (λ yes. cond yes (Answered (Ok object)) (below_second c.args.a.now c.args.b.now))
    c.in-Err.why c.in-Err.ensures
