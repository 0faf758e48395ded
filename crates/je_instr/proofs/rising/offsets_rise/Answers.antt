use Rattle.je_instr.proofs.RiseLemmas as lemmas
use Rattle.je_instr.proofs.rising.offsets_rise.Goals as goal

pub returns-clause-count : goal.returns-clause-count
returns-clause-count c = lemmas.offsets_count

pub returns-clause-rise : goal.returns-clause-rise
returns-clause-rise c consts code table d i j decodes = lemmas.offsets_rise consts code table d decodes i j

pub returns-clause-last : goal.returns-clause-last
returns-clause-last c = lemmas.offsets_last
