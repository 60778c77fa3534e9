use Rattle.std.proofs.Common.{◌++◌, ◌∙◌, ap, subst}
use Rattle.cds_records.specs.RecordOctets.{members_octets}
use Rattle.cds_records.specs.RecordRanges.{FitsMembers}
use Rattle.record_fields.proofs.WritingLoops.{behind}
use Rattle.cds_records.proofs.encoding.put_joined.Goals as goal

pub returns-clause-octets : goal.returns-clause-octets
returns-clause-octets c =
    behind _ _ _ _ _ (c.in_ok-put_members.ensures.octets ∙ ap (λ ms. c.args.out.now.items ++ members_octets ms) c.list.ensures.value)
    c.in_ok-put_replica.ensures.octets

pub returns-clause-fits : goal.returns-clause-fits
returns-clause-fits c = (subst FitsMembers c.list.ensures.value c.in_ok-put_members.ensures.fits, c.in_ok-put_replica.ensures.fits)
