use Rattle.std.proofs.Common.{◌++◌, ◌∷◌, [], ◌∙◌, ap, subst, arith}
use Rattle.std.specs.Prelude.{min}
use Rattle.std.specs.Int.{w32, w64, to_be_bytes}
use Rattle.directory.specs.Held.{held_in, most_held}
use Rattle.cds_records.specs.RecordOctets.{dir_octets, kept_octets, members_octets, replica_octets}
use Rattle.cds_records.specs.RecordRanges.{FitsMembers}
use Rattle.record_fields.proofs.WritingLoops.{behind_6}
use Rattle.cds_records.proofs.image_encoding.put_held.Goals as goal

pub returns-clause-octets : goal.returns-clause-octets
unfolding dir_octets kept_octets
returns-clause-octets c =
    let a = c.args in
    behind_6 a.out.now.items (to_be_bytes w32 a.dir.0) (1 ∷ []) (to_be_bytes w64 a.epoch.0) (members_octets a.members.now) (replica_octets a.replica.now)
    (to_be_bytes w64 (min (held_in a.replica.now.table) most_held))
    c.in_ok-put_u32.ensures c.in_ok-put_octet.ensures c.in_ok-put_u64.ensures
    (c.in_ok-put_members.ensures.octets ∙ ap (λ ms. c.put_u64.new.out.items ++ members_octets ms) c.list.ensures.value) c.in_ok-put_replica.ensures.octets
    (c.in_ok-put_u64-2.ensures ∙ ap (λ n. c.put_replica.new.out.items ++ to_be_bytes w64 n) c.held.ensures)

pub returns-clause-fits : goal.returns-clause-fits
returns-clause-fits c =
    (omega arith, (omega arith, subst FitsMembers c.list.ensures.value c.in_ok-put_members.ensures.fits, c.in_ok-put_replica.ensures.fits))
