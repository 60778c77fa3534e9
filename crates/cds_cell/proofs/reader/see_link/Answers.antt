use Rattle.cell_names.specs.FullNames.{name_fault}
use Rattle.cds_cell.proofs.EntrySights.{no_fault}
use Rattle.cds_cell.proofs.reader.see_link.Goals as goal

pub known-requires : goal.known-requires
known-requires c = rw c.octets.ensures (no_fault (name_fault c.args.value.now) c.requires)
