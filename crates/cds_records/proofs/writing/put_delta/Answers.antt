use Rattle.std.proofs.Common.{◌≡◌, ◌++◌, ◌∙◌, None, ap, subst, arith}
use Rattle.std.specs.Int.{w64, to_be_bytes}
use Rattle.std.specs.FinMap.{len}
use Rattle.cds_stamps.specs.Names.{simple_name_fault}
use Rattle.record_fields.specs.FieldOctets.{optional_stamp_octets, name_octets, items_octets}
use Rattle.record_fields.specs.FieldRanges.{ItemsFit}
use Rattle.cds_records.specs.RecordOctets.{entry_octets, stamped_table_octets}
use Rattle.cds_records.specs.RecordRanges.{FitsEntry}
use Rattle.cds_records.proofs.writing.put_delta.Goals as goal

pub returns-clause-octets : goal.returns-clause-octets
unfolding stamped_table_octets
returns-clause-octets c =
    let old = c.args.out.now.items in
    let stamp = optional_stamp_octets c.args.delta.now.above in
    c.in_ok-put_table.ensures.octets
    ∙ ap (λ n. old ++ (stamp ++ to_be_bytes w64 n ++ items_octets name_octets entry_octets c.iter.result)) c.len.ensures
    ∙ ap (λ es. old ++ (stamp ++ to_be_bytes w64 (len c.args.delta.now.table) ++ items_octets name_octets entry_octets es)) c.iter.ensures

pub returns-clause-fits : goal.returns-clause-fits
returns-clause-fits c = record {
  above = c.in_ok-put_table.ensures.stamp;
  table = record {
    count = omega (arith, c.len.ensures);
    each = subst (ItemsFit (λ n. simple_name_fault n ≡ None) FitsEntry) c.iter.ensures c.in_ok-put_table.ensures.each;
  };
}
