use Rattle.std.proofs.Common.{refl}
use Rattle.record_fields.specs.ListLayouts.{item}
use Rattle.cds_records.proofs.images.add_dir.Goals as goal

pub returns : goal.returns
unfolding item
returns c = (c.in_ok-state.state, rw (c.in_ok-own.ensures, c.in_ok-state.ensures) refl, c.in_ok-insert_dir.ensures)
