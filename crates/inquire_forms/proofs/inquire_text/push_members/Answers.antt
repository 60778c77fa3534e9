use Rattle.inquire_forms.specs.InquireTexts.{member_line}
use Rattle.inquire_forms.proofs.InquireTexts.{one_more_line}
use Rattle.inquire_forms.proofs.inquire_text.push_members.Goals as goal

pub loop-member-preserved : goal.loop-member-preserved
loop-member-preserved c =
    one_more_line member_line c.args.front.now c.args.members.now c.loop-member.member-index c.member-item.result c.args.text.now.items c.loop-member.text.items
    c.push_member.new.text.items c.loop-member-test.true c.member-item.is c.loop-member.invariant c.in_ok-push_member.ensures
