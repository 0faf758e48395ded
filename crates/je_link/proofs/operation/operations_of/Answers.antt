use Rattle.std.proofs.Common.{◌≡◌, [], rules}
use Rattle.std.proofs.lemmas.List.{nil_from_length}
use Rattle.je_instr.specs.Resolves.{Resolves}
use Rattle.je_instr.proofs.ZipLemmas.{reached_all}
use Rattle.je_link.proofs.operation.operations_of.Goals as goal

pub returns-clause-found : goal.returns-clause-found
returns-clause-found c =
    let nothing : c.loop-rest.rest.now ≡ [] = nil_from_length c.loop-rest.rest.now (search rules) in
    let reached = c.loop-rest.invariant.reached in
    reached_all (Resolves c.args.consts.now) c.args.instrs.now c.loop-rest.operations (rw nothing at reached)
