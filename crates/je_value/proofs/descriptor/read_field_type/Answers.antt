use Rattle.std.proofs.Common.{rules}
use Rattle.je_desc.specs.Descriptor.{SpellsField, FieldDescriptor}
use Rattle.je_value.proofs.ReadingLemmas.{field_at, ok_is, ok_some}
use Rattle.je_value.proofs.descriptor.read_field_type.Goals as goal

pub returns-clause-found : goal.returns-clause-found
returns-clause-found c =
    let bytes = c.args.bytes.now in
    let read : FieldDescriptor bytes = search rules in
    ok_some c.first_type.result (SpellsField bytes) read.0
    (ok_is c.first_type.result _ _ c.first_type.ensures (field_at bytes read.0 read.1)) read.1

pub returns-clause-only : goal.returns-clause-only
returns-clause-only c = λ t spelled.
    ok_is c.first_type.result _ _ c.first_type.ensures (field_at c.args.bytes.now t spelled)
