use Rattle.std.proofs.Common.{◌≡◌, ◌+◌, ◌-◌, length, ap, ◌∙◌}
use Rattle.std.specs.FinMap.{empty, insert}
use Rattle.je_base.specs.Store.{Room, contents_after, after_put}
use Rattle.je_base.specs.Files.{Contents}
use Rattle.je_base.proofs.StoreLemmas.{contents_after-behind}
use Rattle.je_base.proofs.store.Store.put.Goals as goal

pub returns : goal.returns
returns c =
    let path = c.args.path.now in
    let content = c.args.content.now in
    let inside = c.self.inside in
    let one : contents_after c.push_file.new.bytes.items empty c.push_file.new.spans.items ≡ insert (contents_after inside.bytes.items empty inside.spans.items) path content = rw (c.push_file.ensures.bytes, c.push_file.ensures.spans, c.as_bytes.ensures.value) (contents_after-behind inside.bytes.items path content empty inside.spans.items c.self.invariant.0) in
    ap (λ (m : Contents). let r : Room = record { contents = m; writes = inside.room_writes - 1; bytes = inside.room_bytes - (length path + length content) } in r) one
    ∙ ap (λ (r : Room). after_put r path content) c.self.view_is
