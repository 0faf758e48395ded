use Rattle.std.proofs.Common.{rules}
use Rattle.je_desc.specs.Types.{field_type_of}
use Rattle.je_type.proofs.TextLemmas.{field_form}
use Rattle.je_type.proofs.written.text.Goals as goal

pub text_of-requires : goal.text_of-requires
text_of-requires c =
    let form = field_form (field_type_of c.args.t.now) c.in_ok-push_descriptor.ensures.named in search rules
