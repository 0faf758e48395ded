use Rattle.std.proofs.Common.{[], ◌∷◌, ap, sym, ◌∙◌, ◌++◌}
use Rattle.je_base.specs.Parts.{table_parts}
use Rattle.je_class.specs.FileParts.{NamesText, DescribesField, DescribesMethod, spelled, interface_parts, field_parts, method_parts, attribute_parts}
use Rattle.je_class.proofs.Spelled.{then_ok, put_four, spelled-four}
use Rattle.je_class.proofs.writing.put_tables.Goals as goal

pub returns : goal.returns
returns c =
    let p = c.args.parts.now in
    let consts = p.consts in
    let interfaces = table_parts (interface_parts consts) p.interfaces.items in
    let fields = table_parts (field_parts consts) p.fields.items in
    let methods = table_parts (method_parts consts) p.methods.items in
    let attributes = table_parts (attribute_parts consts) p.attributes.items in
    let first = rw c.deref.ensures.value at (c.in_ok-put_interfaces.ensures consts) in
    let second = rw c.deref-2.ensures.value at (c.in_ok-put_members.ensures consts (λ m. NamesText consts m.descriptor ∷ DescribesField consts m.descriptor ∷ [])) in
    let third = rw c.deref-3.ensures.value at (c.in_ok-put_members-2.ensures consts (λ m. NamesText consts m.descriptor ∷ DescribesMethod consts m.access m.descriptor ∷ [])) in
    then_ok c.put_attributes.result _ _ (rw c.deref-4.ensures.value at (c.put_attributes.ensures consts)) (λ put.
    put_four c.args.out.now.items (spelled interfaces) (spelled fields) (spelled methods) (spelled attributes) c.put_interfaces.new.out.items c.put_members.new.out.items c.put_members-2.new.out.items c.put_attributes.new.out.items first second third put
    ∙ ap (λ bytes. c.args.out.now.items ++ bytes) (sym (spelled-four interfaces fields methods attributes)))
