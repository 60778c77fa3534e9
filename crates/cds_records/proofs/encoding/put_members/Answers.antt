use Rattle.std.proofs.Common.{◌+◌, drop, arith}
use Rattle.std.proofs.lemmas.List.{drop_more, drop_all}
use Rattle.cds_records.specs.RecordOctets.{members_octets}
use Rattle.cds_records.proofs.WholeMessages.{members_lawful}
use Rattle.record_fields.proofs.WritingLoops.{behind}
use Rattle.cds_records.proofs.WritingMembers.{list_begins, list_goes_on, list_ends}
use Rattle.cds_records.proofs.encoding.put_members.Goals as goal

pub overflow_cast-list : goal.overflow_cast-list
overflow_cast-list c = omega (arith, (members_lawful c.args.list.now c.requires).2)

pub loop-member-init : goal.loop-member-init
loop-member-init c = list_begins c.args.list.now c.put_octet.new.out.items

pub loop-member-preserved : goal.loop-member-preserved
loop-member-preserved c =
    list_goes_on c.args.list.now (drop c.loop-member.member-index c.args.list.now) (drop (c.loop-member.member-index + 1) c.args.list.now) _
    c.put_octet.new.out.items c.loop-member.out.items c.put_member.new.out.items
    (drop_more c.args.list.now c.loop-member.member-index _ c.loop-member-test.true) c.loop-member.invariant c.in_ok-put_member.ensures.octets
    c.in_ok-put_member.ensures.fits

pub returns-clause-octets : goal.returns-clause-octets
unfolding members_octets
returns-clause-octets c =
    behind _ _ _ _ _ c.in_ok-put_octet.ensures
    (list_ends c.args.list.now (drop c.loop-member.member-index c.args.list.now) c.put_octet.new.out.items c.loop-member.out.items
    (drop_all c.loop-member.member-index c.args.list.now c.loop-member-test.false) c.loop-member.invariant).0

pub returns-clause-fits : goal.returns-clause-fits
returns-clause-fits c = record {
  lawful = c.requires;
  since = (list_ends c.args.list.now (drop c.loop-member.member-index c.args.list.now) c.put_octet.new.out.items c.loop-member.out.items
      (drop_all c.loop-member.member-index c.args.list.now c.loop-member-test.false) c.loop-member.invariant).1;
}
