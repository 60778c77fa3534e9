use Rattle.std.proofs.Common.{None, false}
use Rattle.std.proofs.lemmas.Result.{err_from_is_err_and}
use Rattle.record_fields.specs.LayoutReading.{read}
use Rattle.cds_records.specs.Records.{member_list}
use Rattle.cds_records.proofs.Listed.{members_begin, members_go_on, members_end, members_done}
use Rattle.cds_records.proofs.members.read_listed.Goals as goal

pub loop-i-init : goal.loop-i-init
loop-i-init c = rw c.new-list.ensures.items (members_begin c.args.secondary c.args.count c.args.reader.now)

pub returns-in_err-member : goal.returns-in_err-member
returns-in_err-member c =
    let p = err_from_is_err_and c.from_residual.result c.from_residual.ensures.1 in
    rw (p.1, p.2) (members_end c.args.secondary c.in_err-member.field-0.0 c.loop-i.list.items c.args.count c.loop-i.i c.loop-i.before c.loop-i.master c.loop-i.reader
    c.args.reader.now c.loop-i-test.true c.in_err-member.ensures c.loop-i.invariant)

pub loop-i-preserved : goal.loop-i-preserved
loop-i-preserved c =
    rw (c.in_ok-push.ensures.items, c.has_master-master.ensures)
    (members_go_on c.args.secondary c.loop-i.list.items c.args.count c.loop-i.i c.loop-i.before c.loop-i.master c.loop-i.reader c.in_ok-member.member c.read_member.new.reader
    (read (member_list c.args.secondary c.args.count None false) c.args.reader.now) c.loop-i-test.true c.in_ok-member.ensures c.loop-i.invariant)

pub returns : goal.returns
returns c =
    members_done c.args.secondary c.loop-i.list.items c.args.count c.loop-i.i c.loop-i.before c.loop-i.master c.loop-i.reader
    (read (member_list c.args.secondary c.args.count None false) c.args.reader.now) c.loop-i-test.false c.loop-i.invariant
