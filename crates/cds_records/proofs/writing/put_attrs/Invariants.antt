use Rattle.std.proofs.Common.{◌≡◌, None}
use Rattle.std.specs.FinMap.{entries}
use Rattle.cds_stamps.specs.Names.{attr_fault}
use Rattle.record_fields.specs.FieldOctets.{name_octets, cell_octets}
use Rattle.record_fields.specs.FieldRanges.{FitsCell}
use Rattle.record_fields.proofs.WritingLoops.{Written}
use Rattle.cds_records.proofs.writing.put_attrs.Given as goal

abbrev pub invariant-loop-name : goal.invariant-loop-name
invariant-loop-name l = Written name_octets cell_octets (λ n. attr_fault n ≡ None) FitsCell (entries l.attrs) l.name-iterator l.fn.out.items l.out.items
