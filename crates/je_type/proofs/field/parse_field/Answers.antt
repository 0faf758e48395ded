use Rattle.std.proofs.Common.{rules}
use Rattle.je_desc.specs.Descriptor.{FieldDescriptor}
use Rattle.je_type.proofs.FieldLemmas.{field_found, form_found, none_found, only_found}
use Rattle.je_type.proofs.field.parse_field.Goals as goal

pub returns-clause-found : goal.returns-clause-found
returns-clause-found c =
    let read : FieldDescriptor c.args.b.now = search rules in
    field_found c.args.b.now c.first_type.result read c.first_type.ensures.reads

pub returns-clause-form : goal.returns-clause-form
returns-clause-form c =
    let read : FieldDescriptor c.args.b.now = search rules in
    form_found c.args.b.now c.first_type.result read c.first_type.ensures.reads c.first_type.ensures.form

pub returns-clause-none : goal.returns-clause-none
returns-clause-none c = none_found c.args.b.now c.first_type.result c.first_type.ensures.reads

pub returns-clause-only : goal.returns-clause-only
returns-clause-only c = only_found c.args.b.now c.first_type.result c.first_type.ensures.reads
