use Rattle.std.proofs.Common.{◌≡◌, [], rules}
use Rattle.std.proofs.lemmas.List.{nil_from_length}
use Rattle.je_instr.specs.Decoding.{Leads}
use Rattle.je_instr.proofs.ZipLemmas.{reached_all}
use Rattle.je_instr.proofs.targets.all_resolved.Goals as goal

pub returns-clause-found : goal.returns-clause-found
returns-clause-found c =
    let nothing : c.loop-rest.rest.now ≡ [] = nil_from_length c.loop-rest.rest.now (search rules) in
    let reached = c.loop-rest.invariant.reached in
    reached_all (Leads c.args.starts.now) c.args.located.now c.loop-rest.instrs.items (rw nothing at reached)
