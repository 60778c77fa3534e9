use Rattle.std.proofs.Common.{None}
use Rattle.std.specs.Cmp.Lexicographic.{nat_list_cmp_total}
use Rattle.directory.specs.Entries.{IsValidEntry}
use Rattle.record_fields.specs.Fields.{simple_name}
use Rattle.cds_records.specs.Records.{entry}
use Rattle.record_fields.proofs.Valid.{items_valid}
use Rattle.cds_records.proofs.Valid.{entry_valid}
use Rattle.cds_records.proofs.tables.read_excerpt.Goals as goal

pub from_pairs-requires : goal.from_pairs-requires
from_pairs-requires c =
    items_valid nat_list_cmp_total IsValidEntry simple_name (entry c.args.above.now) (entry_valid c.args.above.now) c.args.count None c.args.reader.now c.in_ok-entries.entries.items
    c.read_entries.new.reader c.in_ok-entries.ensures
