use Rattle.std.proofs.Common.{◌≡◌, ap, ◌∙◌}
use Rattle.std.specs.FinMap.{empty, insert}
use Rattle.je_base.specs.Store.{Room, contents_after}
use Rattle.je_base.specs.Files.{Contents}
use Rattle.je_base.proofs.StoreLemmas.{contents_after-behind}
use Rattle.je_base.proofs.store.Store.add.Goals as goal

pub returns-clause-ok : goal.returns-clause-ok
returns-clause-ok c =
    let path = c.args.path.now in
    let content = c.args.content.now in
    let inside = c.self.inside in
    let one : contents_after c.push_file.new.bytes.items empty c.push_file.new.spans.items ≡ insert (contents_after inside.bytes.items empty inside.spans.items) path content = rw (c.push_file.ensures.bytes, c.push_file.ensures.spans, c.as_bytes.ensures.value, c.in_ok-reserve.ensures.items, c.in_ok-reserve-2.ensures.items) (contents_after-behind inside.bytes.items path content empty inside.spans.items c.self.invariant.0) in
    ap (λ (m : Contents). let r : Room = record { contents = m; writes = inside.room_writes; bytes = inside.room_bytes } in r) one
    ∙ ap (λ (r : Room). record r { contents = insert r.contents path content }) c.self.view_is
