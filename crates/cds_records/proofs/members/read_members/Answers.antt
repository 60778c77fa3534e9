use Rattle.std.proofs.Common.{ap, ◌∙◌}
use Rattle.cds_stamps.specs.Members.{members_of, members_fault}
use Rattle.cds_records.specs.Records.{has_secondary}
use Rattle.cds_records.proofs.Listed.{listed_lawful}
use Rattle.cds_records.proofs.members.read_members.Goals as goal

pub known-requires : goal.known-requires
known-requires c =
    ap (λ ms. members_fault (members_of ms)) c.as_slice.ensures.value
    ∙ listed_lawful (has_secondary c.args.format) c.in_ok-count.count c.octet_within.new.self c.in_ok-list.list.items c.read_listed.new.reader c.in_ok-count.ensures.within.0
    c.in_ok-count.ensures.within.1 c.in_ok-list.ensures
