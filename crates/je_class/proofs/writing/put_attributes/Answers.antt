use Rattle.std.proofs.Common.{length}
use Rattle.je_base.specs.Bytes.{u2}
use Rattle.je_class.specs.FileParts.{attribute_parts}
use Rattle.je_class.proofs.Spelled.{put_more}
use Rattle.je_class.proofs.writing.put_attributes.Goals as goal

pub loop-attribute-preserved : goal.loop-attribute-preserved
loop-attribute-preserved c consts =
    put_more (attribute_parts consts) c.args.out.now.items (u2 (length c.args.attributes.now)) c.loop-attribute.out.items c.put_attribute.new.out.items c.args.attributes.now c.loop-attribute.attribute-index c.attribute-item.result c.loop-attribute-test.true c.attribute-item.is (c.loop-attribute.invariant consts) (c.in_ok-put_attribute.ensures consts)
