use Rattle.std.proofs.Common.{◌≡◌, [], rules}
use Rattle.std.proofs.lemmas.List.{nil_from_length}
use Rattle.je_instr.specs.Decoding.{BeginsCase}
use Rattle.je_instr.proofs.ZipLemmas.{reached_all}
use Rattle.je_instr.proofs.targets.cases_in.Goals as goal

pub returns-clause-some : goal.returns-clause-some
returns-clause-some c =
    let nothing : c.loop-rest.rest.now ≡ [] = nil_from_length c.loop-rest.rest.now (search rules) in
    reached_all (BeginsCase c.args.starts.now) c.args.located.now c.loop-rest.cases.items (rw nothing at c.loop-rest.invariant)
