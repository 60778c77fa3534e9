use Rattle.std.proofs.Common.{◌≡◌, ◌++◌, ◌∙◌, ap, arith}
use Rattle.std.specs.Int.{w64, to_be_bytes}
use Rattle.std.specs.FinMap.{len}
use Rattle.record_fields.specs.FieldOctets.{optional_stamp_octets, value_octets, mark_octets, each_octets, cell_octets}
use Rattle.record_fields.proofs.WritingLoops.{behind_3}
use Rattle.record_fields.proofs.writing.put_cell.Goals as goal

pub returns-clause-octets : goal.returns-clause-octets
unfolding cell_octets
returns-clause-octets c =
    let x = c.args.cell.now in
    let count : c.put_u64.new.out.items ≡ c.put_optional_stamp.new.out.items ++ to_be_bytes w64 (len x.values) =
    c.in_ok-put_u64.ensures ∙ ap (λ n. c.put_optional_stamp.new.out.items ++ to_be_bytes w64 n) c.len.ensures in
    behind_3 c.args.out.now.items (optional_stamp_octets x.cleared) (to_be_bytes w64 (len x.values)) (each_octets value_octets mark_octets x.values)
    c.in_ok-put_optional_stamp.ensures.octets count
    c.in_ok-put_marks.ensures.octets

pub returns-clause-fits : goal.returns-clause-fits
returns-clause-fits c = record {
  cleared = c.in_ok-put_optional_stamp.ensures.fits;
  values = record { count = omega (arith, c.len.ensures); each = c.in_ok-put_marks.ensures.fits };
}
