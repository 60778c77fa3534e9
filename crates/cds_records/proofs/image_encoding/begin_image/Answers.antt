use Rattle.std.proofs.Common.{◌∷◌, []}
use Rattle.std.specs.Int.{w64, to_be_bytes}
use Rattle.record_fields.specs.Fields.{node_octets}
use Rattle.cds_records.specs.RecordOctets.{image_head}
use Rattle.record_fields.proofs.WritingLoops.{behind_6, from_none}
use Rattle.cds_records.proofs.image_encoding.begin_image.Goals as goal

pub returns-clause-octets : goal.returns-clause-octets
unfolding image_head
returns-clause-octets c =
    let a = c.args in
    from_none _ (image_head a.house.0 a.node a.floor a.count) _ c.new-out.ensures.items
    (behind_6 c.new-out.result.items (2 ∷ []) (9 ∷ []) (a.house.0 ∷ []) (node_octets a.node) (to_be_bytes w64 a.floor) (to_be_bytes w64 a.count)
    c.in_ok-put_octet.ensures c.in_ok-put_octet-2.ensures c.in_ok-put_octet-3.ensures c.in_ok-put_node.ensures.octets c.in_ok-put_u64.ensures
    c.in_ok-put_u64-2.ensures)
