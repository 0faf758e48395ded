use Rattle.std.proofs.Common.{◌≡◌, [], rules}
use Rattle.std.proofs.lemmas.List.{nil_from_length}
use Rattle.je_instr.proofs.ZipLemmas.{reached_all}
use Rattle.je_probe.specs.Shown.{IsValue}
use Rattle.je_probe.proofs.value.values_shown.Goals as goal

pub returns : goal.returns
returns c =
    let nothing : c.loop-value.rest.now ≡ [] = nil_from_length c.loop-value.rest.now (search rules) in
    let reached = c.loop-value.invariant in
    reached_all (IsValue c.args.consts.now) c.args.values.now c.loop-value.shown.items
    (rw nothing at reached)
