use Rattle.std.proofs.Common.{length}
use Rattle.je_instr.proofs.ZipLemmas.{Reached}
use Rattle.je_probe.specs.Shown.{IsEvent}
use Rattle.je_probe.proofs.event.events_shown.Given as goal

abbrev pub invariant-loop-event : goal.invariant-loop-event
invariant-loop-event l = Reached (IsEvent l.consts) l.events l.rest l.shown.items

abbrev pub decreases-loop-event : goal.decreases-loop-event
decreases-loop-event l = length l.rest
