use Rattle.je_calls.proofs.MappedLemmas.{Laws, stays, behind, drops, ends, handlers}
use Rattle.je_calls.specs.Blocks.{blocks_of}
use Rattle.je_put.specs.Placing.{completes}
use Rattle.je_splice.specs.InstrCodes.{instr_codes}
use Rattle.je_splice.specs.Put.{replacements}
use Rattle.je_calls.proofs.mapped.instructions_are_mapped.Goals as goal

laws : goal.After-replacements_stand_alone → Laws
laws c = record {
  begins = c.code_is_laid.ensures.begins;
  body = c.code_is_laid.ensures.body instr_codes;
  long = c.code_is_laid.ensures.length instr_codes;
  counted = c.places_are_counted.ensures.length instr_codes;
  arrives = c.places_are_indexes.ensures.arrive;
  stands = c.places_are_indexes.ensures.stand;
  last = c.places_are_counted.ensures.last;
  alone = λ p choices. c.replacements_stand_alone.ensures (λ h. h.target) completes (replacements 0 (blocks_of p.instrs choices)) (c.choices_are_marks.ensures.stands (blocks_of p.instrs choices));
  instead = λ p choices i. c.choices_are_marks.ensures.instead (λ h. h.target) completes (blocks_of p.instrs choices) i;
}

pub returns-clause-ends : goal.returns-clause-ends
returns-clause-ends c = λ p choices. ends (laws c) p choices

pub returns-clause-stays : goal.returns-clause-stays
returns-clause-stays c = λ p choices i a here there. stays (laws c) p choices i a here there

pub returns-clause-behind : goal.returns-clause-behind
returns-clause-behind c = λ p choices i a here there. behind (laws c) p choices i a here there

pub returns-clause-drops : goal.returns-clause-drops
returns-clause-drops c = λ p choices i a here there. drops (laws c) p choices i a here there

pub returns-clause-handlers : goal.returns-clause-handlers
returns-clause-handlers c = λ p choices. handlers (laws c) p choices
