use Rattle.std.proofs.Common.{[], sym}
use Rattle.std.proofs.lemmas.List.{append-nil}
use Rattle.je_consts.specs.Adding.{Keeps}
use Rattle.je_class.specs.Indexed.{answer}
use Rattle.je_class.proofs.IndexStays.{finds_stays}
use Rattle.je_class.proofs.laws.index_stays.Goals as goal

pub returns-clause-code : goal.returns-clause-code
returns-clause-code c class index method attribute bytes consts sound keeps finds =
    finds_stays class consts method attribute bytes (answer index) (c.names_stay.ensures class consts sound keeps).methods finds

pub returns-clause-attribute : goal.returns-clause-attribute
returns-clause-attribute c class index method attribute bytes sound finds =
    let keeps : Keeps class.consts class.consts = record { front = ([], sym (append-nil class.consts)); content = λ i entry h. h } in
    finds_stays class class.consts method attribute bytes (answer index) (c.names_stay.ensures class class.consts sound keeps).methods finds
