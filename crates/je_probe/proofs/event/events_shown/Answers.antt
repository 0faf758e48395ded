use Rattle.std.proofs.Common.{◌≡◌, [], rules}
use Rattle.std.proofs.lemmas.List.{nil_from_length}
use Rattle.je_instr.proofs.ZipLemmas.{reached_all}
use Rattle.je_probe.specs.Shown.{IsEvent}
use Rattle.je_probe.proofs.event.events_shown.Goals as goal

pub returns : goal.returns
returns c =
    let nothing : c.loop-event.rest.now ≡ [] = nil_from_length c.loop-event.rest.now (search rules) in
    let reached = c.loop-event.invariant in
    reached_all (IsEvent c.args.consts.now) c.args.events.now c.loop-event.shown.items
    (rw nothing at reached)
