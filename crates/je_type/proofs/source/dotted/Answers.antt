use Rattle.je_type.proofs.SourceLemmas.{name_in_source}
use Rattle.je_type.proofs.source.dotted.Goals as goal

pub text_of-requires : goal.text_of-requires
text_of-requires c =
    let form = name_in_source c.bytes.result.now c.bytes.ensures.form in rw c.in_ok-bytes.ensures form
