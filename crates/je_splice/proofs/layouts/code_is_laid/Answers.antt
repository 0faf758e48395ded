use Rattle.std.proofs.Common.{refl, ap, ◌+◌}
use Rattle.je_splice.specs.Layout.{moved_to, width_there}
use Rattle.je_splice.proofs.LayoutLemmas.{next_begins, rises, laid_length, body_stands, jump_stands}
use Rattle.je_splice.proofs.layouts.code_is_laid.Goals as goal

pub returns-clause-starts : goal.returns-clause-starts
returns-clause-starts g c = λ items. refl

pub returns-clause-begins : goal.returns-clause-begins
returns-clause-begins g c = λ items place item is. next_begins items place item is

pub returns-clause-rises : goal.returns-clause-rises
returns-clause-rises g c = λ items a b h. rises items a b h

pub returns-clause-length : goal.returns-clause-length
returns-clause-length g c = λ codes items. laid_length codes items

pub returns-clause-body : goal.returns-clause-body
returns-clause-body g c = λ codes items place k item a is h. body_stands codes items place k item a is h

pub returns-clause-jump : goal.returns-clause-jump
returns-clause-jump g c = λ codes items place over item is e. jump_stands codes items place over item is e

pub returns-clause-shuts : goal.returns-clause-shuts
returns-clause-shuts g c = λ items last item is. ap (λ there. moved_to items last + width_there there) is
