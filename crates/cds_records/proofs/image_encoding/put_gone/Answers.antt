use Rattle.std.proofs.Common.{◌∷◌, []}
use Rattle.std.specs.Int.{w32, w64, to_be_bytes}
use Rattle.cds_records.specs.RecordOctets.{dir_octets, kept_octets}
use Rattle.record_fields.proofs.WritingLoops.{behind_3}
use Rattle.cds_records.proofs.image_encoding.put_gone.Goals as goal

pub returns-clause-octets : goal.returns-clause-octets
unfolding dir_octets kept_octets
returns-clause-octets c =
    let a = c.args in
    behind_3 a.out.now.items (to_be_bytes w32 a.dir.0) (2 ∷ []) (to_be_bytes w64 a.epoch.0) c.in_ok-put_u32.ensures c.in_ok-put_octet.ensures
    c.in_ok-put_u64.ensures
