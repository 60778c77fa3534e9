use Rattle.std.proofs.Common.{◌∷◌, [], arith}
use Rattle.std.specs.Int.{w32, w64, to_be_bytes}
use Rattle.cds_records.specs.RecordOctets.{message_head}
use Rattle.record_fields.proofs.WritingLoops.{behind_6, from_none}
use Rattle.cds_records.proofs.encoding.begin.Goals as goal

pub returns-clause-octets : goal.returns-clause-octets
unfolding message_head
returns-clause-octets c =
    let h = c.args.head.now in
    from_none _ (message_head h c.args.tag) _ c.in_ok-out.ensures.items
    (behind_6 c.in_ok-out.out.items (2 ∷ []) (c.args.tag ∷ []) (to_be_bytes w32 h.dir.0) (h.from.0 ∷ []) (to_be_bytes w64 h.epoch.0) (to_be_bytes w64 h.floor)
    c.in_ok-put_octet.ensures c.in_ok-put_octet-2.ensures c.in_ok-put_u32.ensures c.in_ok-put_octet-3.ensures c.in_ok-put_u64.ensures
    c.in_ok-put_u64-2.ensures)

pub returns-clause-fits : goal.returns-clause-fits
returns-clause-fits c = record { dir = omega arith; epoch = omega arith; floor = omega arith }
