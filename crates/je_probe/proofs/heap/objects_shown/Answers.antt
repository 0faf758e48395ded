use Rattle.std.proofs.Common.{◌≡◌, [], rules}
use Rattle.std.proofs.lemmas.List.{nil_from_length}
use Rattle.je_instr.proofs.ZipLemmas.{reached_all}
use Rattle.je_probe.specs.Shown.{IsObject}
use Rattle.je_probe.proofs.heap.objects_shown.Goals as goal

pub returns : goal.returns
returns c =
    let nothing : c.loop-object.rest.now ≡ [] = nil_from_length c.loop-object.rest.now (search rules) in
    let reached = c.loop-object.invariant in
    reached_all IsObject c.args.objects.now c.loop-object.shown.items
    (rw nothing at reached)
