use Rattle.je_instr.proofs.DecodeLemmas.{same_decoded, decoded_no_fault, one_fault}
use Rattle.je_instr.proofs.TotalLemmas.{not_neither}
use Rattle.je_instr.proofs.decoder.one_decoding.Goals as goal

pub returns-clause-same : goal.returns-clause-same
returns-clause-same c = same_decoded

pub returns-clause-no_fault : goal.returns-clause-no_fault
returns-clause-no_fault c = decoded_no_fault

pub returns-clause-one_fault : goal.returns-clause-one_fault
returns-clause-one_fault c = one_fault

pub returns-clause-some : goal.returns-clause-some
returns-clause-some c = not_neither
