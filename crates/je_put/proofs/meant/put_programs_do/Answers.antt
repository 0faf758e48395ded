use Rattle.je_splice.specs.InstrCodes.{instr_codes}
use Rattle.je_splice.specs.Marks.{marked_handlers}
use Rattle.je_put.specs.Placing.{block_marks}
use Rattle.je_put.specs.Result.{put_items, pieces}
use Rattle.je_put.proofs.meant.put_programs_do.Goals as goal

pub returns : goal.returns
returns c = λ consts p places entries. c.code_is_woven.ensures consts (pieces (put_items p places entries)) (marked_handlers instr_codes (block_marks places entries) p.handlers)
