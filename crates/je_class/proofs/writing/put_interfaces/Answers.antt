use Rattle.std.proofs.Common.{length, get_or}
use Rattle.je_base.specs.Bytes.{u2}
use Rattle.je_class.specs.FileParts.{interface_parts}
use Rattle.je_class.proofs.Spelled.{get_or-self, put_more}
use Rattle.je_class.proofs.writing.put_interfaces.Goals as goal

pub loop-index-preserved : goal.loop-index-preserved
loop-index-preserved c consts =
    let index = get_or c.args.indexes.now c.loop-index.index-index 0 in
    put_more (interface_parts consts) c.args.out.now.items (u2 (length c.args.indexes.now)) c.loop-index.out.items c.put_u16-in-loop-index.new.out.items c.args.indexes.now c.loop-index.index-index index c.loop-index-test.true (get_or-self c.args.indexes.now c.loop-index.index-index 0) (c.loop-index.invariant consts) c.in_ok-put_u16-2.ensures.ok
