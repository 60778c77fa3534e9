use Rattle.std.proofs.Common.{List, ℕ, ◌≡◌, ◌++◌, [], ◌∷◌, ◌∙◌, ap, drop, take, arith}
use Rattle.std.specs.Int.{w64, to_be_bytes, bytes_high_first}
use borrow.Rule.Slice.PartMut.{put_mid}
use Rattle.record_fields.specs.Fields.{node_octets}
use Rattle.record_fields.specs.FieldOctets.{stamp_octets}
use Rattle.record_fields.proofs.WritingLoops.{six_octets}
use Rattle.record_fields.proofs.writing.put_stamp.Goals as goal

pub returns-clause-octets : goal.returns-clause-octets
unfolding stamp_octets
returns-clause-octets c =
    let room : List ℕ = 0 ∷ 0 ∷ 0 ∷ 0 ∷ 0 ∷ 0 ∷ [] in
    let node : c.write_u48.new.buf ≡ bytes_high_first 6 c.number-node.result =
    c.write_u48.ensures ∙ ap (λ time. bytes_high_first 6 c.number-node.result ++ drop 6 (take 6 (drop 8 (time ++ room)))) c.write_u64.ensures in
    c.in_ok-extend_from_slice.ensures.items ∙ (λ i. c.args.out.now.items ++ put_mid 8 6 (c.write_u64.ensures i ++ room) (node i))
    ∙ ap (λ o. c.args.out.now.items ++ (to_be_bytes w64 c.args.stamp.now.time ++ o))
    (six_octets c.number-node.result ∙ ap node_octets c.number-node.ensures.same)

pub returns-clause-fits : goal.returns-clause-fits
returns-clause-fits c = record { time = omega arith; node = omega (arith, c.number-node.ensures.same, c.number-node.ensures.below) }
