use Rattle.je_desc.specs.Types.{method_types_of}
use Rattle.je_type.proofs.TextLemmas.{method_form}
use Rattle.je_type.proofs.written.method_text.Goals as goal

pub text_of-requires : goal.text_of-requires
text_of-requires c =
    let form = method_form (method_types_of c.args.m.now) c.in_ok-bytes.ensures.named in
    rw c.in_ok-bytes.ensures.bytes form
