use Rattle.std.proofs.Common.{◌≡◌, None, ap, ◌∙◌}
use Rattle.std.specs.FinMap.{empty, insert}
use Rattle.je_world.specs.declared.entry.Entry.TheVariants as entry
use Rattle.je_world.specs.Entry.{known_after}
use Rattle.je_world.specs.MapWorld.{Contents, WorldState}
use Rattle.je_world.proofs.EntryLemmas.{known_after-push}
use Rattle.je_world.proofs.map_world.MapWorld.break_name.Goals as goal

pub returns-clause-ok : goal.returns-clause-ok
returns-clause-ok c =
    let w = c.self.inside in
    let more : known_after empty c.push.new.self.items ≡ insert (known_after empty w.entries.items) c.args.name None = rw c.in_ok-push.ensures.items (known_after-push empty w.entries.items (entry.Broken c.args.name)) in
    ap (λ (m : Contents). let r : WorldState = record { contents = m; asked = w.asked.items; failing = w.failing.items; looks = w.looks; faults = w.faults; stop = w.stop } in r) more
    ∙ ap (λ (r : WorldState). record r { contents = insert r.contents c.args.name None }) c.self.view_is
