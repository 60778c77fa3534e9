use Rattle.std.proofs.Common.{◌≡◌, ◌+◌, ◌++◌, ◌∷◌, [], ◌∙◌, ap, arith}
use Rattle.std.specs.Int.{w64, to_be_bytes}
use Rattle.std.specs.FinMap.{len}
use Rattle.directory.specs.Kinds.{rank}
use Rattle.record_fields.specs.FieldOctets.{stamp_octets, optional_stamp_octets, name_octets, each_octets, cell_octets}
use Rattle.cds_records.specs.RecordOctets.{entry_octets}
use Rattle.record_fields.proofs.WritingLoops.{behind_5}
use Rattle.cds_records.proofs.writing.put_entry.Goals as goal

pub returns-clause-octets : goal.returns-clause-octets
unfolding entry_octets
returns-clause-octets c =
    let e = c.args.entry.now in
    let count : c.put_u64.new.out.items ≡ c.put_optional_stamp.new.out.items ++ to_be_bytes w64 (len e.attrs) =
    c.in_ok-put_u64.ensures ∙ ap (λ n. c.put_optional_stamp.new.out.items ++ to_be_bytes w64 n) c.len.ensures in
    behind_5 c.args.out.now.items ((rank e.kind + 1) ∷ []) (stamp_octets e.birth) (optional_stamp_octets e.death) (to_be_bytes w64 (len e.attrs))
    (each_octets name_octets cell_octets e.attrs) (c.in_ok-put_octet.ensures ∙ ap (λ n. c.args.out.now.items ++ n ∷ []) c.kind_number.ensures)
    c.in_ok-put_stamp.ensures.octets c.in_ok-put_optional_stamp.ensures.octets count c.in_ok-put_attrs.ensures.octets

pub returns-clause-fits : goal.returns-clause-fits
returns-clause-fits c = record {
  birth = c.in_ok-put_stamp.ensures.fits;
  death = c.in_ok-put_optional_stamp.ensures.fits;
  attrs = record { count = omega (arith, c.len.ensures); each = c.in_ok-put_attrs.ensures.fits };
}
