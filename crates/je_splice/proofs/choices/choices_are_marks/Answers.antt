use Rattle.je_splice.proofs.ChoiceLemmas.{all_stand, chosen_there, choices_placed}
use Rattle.je_splice.proofs.choices.choices_are_marks.Goals as goal

pub returns-clause-stands : goal.returns-clause-stands
returns-clause-stands i c = λ choices. all_stand 0 choices

pub returns-clause-instead : goal.returns-clause-instead
returns-clause-instead g c = λ target_of goes_on choices i. chosen_there i choices

pub returns-clause-placed : goal.returns-clause-placed
returns-clause-placed i c = λ consts piece_of fragment_of completes goes_on xs ys h. choices_placed consts piece_of fragment_of completes goes_on 0 xs ys h
