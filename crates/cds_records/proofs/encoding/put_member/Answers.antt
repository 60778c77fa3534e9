use Rattle.std.proofs.Common.{◌++◌, ◌∷◌, [], ◌∙◌, ap}
use Rattle.std.specs.Int.{w64, to_be_bytes}
use Rattle.cds_messages.specs.KindNumbers.{kind_number}
use Rattle.cds_records.specs.RecordOctets.{member_octets}
use Rattle.record_fields.proofs.WritingLoops.{behind_3}
use Rattle.cds_records.proofs.encoding.put_member.Goals as goal

pub returns-clause-octets : goal.returns-clause-octets
unfolding member_octets
returns-clause-octets c =
    let m = c.args.member.now in
    behind_3 c.args.out.now.items (m.house.0 ∷ []) (to_be_bytes w64 m.since.0) (kind_number m.kind ∷ []) c.in_ok-put_octet.ensures c.in_ok-put_u64.ensures
    (c.in_ok-put_octet-2.ensures ∙ ap (λ n. c.put_u64.new.out.items ++ n ∷ []) c.member_kind_number.ensures)
