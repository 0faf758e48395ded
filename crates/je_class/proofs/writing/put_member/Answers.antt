use Rattle.je_base.specs.Bytes.{u2}
use Rattle.je_base.specs.Parts.{table_parts}
use Rattle.je_class.specs.FileParts.{spelled, attribute_parts}
use Rattle.je_class.proofs.Spelled.{then_ok, put_four}
use Rattle.je_class.proofs.writing.put_member.Goals as goal

pub returns : goal.returns
returns c consts tests =
    let m = c.args.member.now in
    let attributes = spelled (table_parts (attribute_parts consts) m.attributes) in
    then_ok c.put_attributes.result _ _ (rw c.as_slice.ensures at (c.put_attributes.ensures consts)) (λ put. put_four c.args.out.now.items (u2 m.access) (u2 m.name) (u2 m.descriptor) attributes c.put_u16.new.out.items c.put_u16-2.new.out.items c.put_u16-3.new.out.items c.put_attributes.new.out.items c.in_ok-put_u16.ensures.ok c.in_ok-put_u16-2.ensures.ok c.in_ok-put_u16-3.ensures.ok put)
