use Rattle.std.proofs.Common.{length}
use Rattle.je_base.specs.Bytes.{u2}
use Rattle.je_class.specs.FileParts.{member_parts}
use Rattle.je_class.proofs.Spelled.{put_more}
use Rattle.je_class.proofs.writing.put_members.Goals as goal

pub loop-member-preserved : goal.loop-member-preserved
loop-member-preserved c consts tests =
    put_more (λ m. member_parts consts (tests m) m) c.args.out.now.items (u2 (length c.args.members.now)) c.loop-member.out.items c.put_member.new.out.items c.args.members.now c.loop-member.member-index c.member-item.result c.loop-member-test.true c.member-item.is (c.loop-member.invariant consts tests) (c.in_ok-put_member.ensures consts (tests c.member-item.result))
