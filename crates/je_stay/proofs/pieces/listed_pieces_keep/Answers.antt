use Rattle.je_stay.proofs.ListedLemmas.{all_meet, lists_keep, lists_fit}
use Rattle.je_stay.proofs.pieces.listed_pieces_keep.Goals as goal

pub returns-clause-meets : goal.returns-clause-meets
returns-clause-meets c = all_meet

pub returns-clause-keep : goal.returns-clause-keep
returns-clause-keep c = λ m x completes places entries keep. lists_keep completes places entries m x keep

pub returns-clause-fit : goal.returns-clause-fit
returns-clause-fit c = λ limit m x completes places entries fit uses. lists_fit completes places entries limit m x fit uses
