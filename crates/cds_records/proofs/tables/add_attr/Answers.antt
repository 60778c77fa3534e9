use Rattle.std.proofs.Common.{◌∙◌, ap, refl}
use Rattle.std.specs.FinMap as map
use Rattle.record_fields.specs.ListLayouts.{item}
use Rattle.cds_records.proofs.tables.add_attr.Goals as goal

pub returns : goal.returns
unfolding item
returns c = (
  c.in_ok-cell.cell,
  rw (c.in_ok-own.ensures.read, c.in_ok-cell.ensures) refl,
  c.in_ok-insert_cell.ensures ∙ ap (λ k. map.insert c.args.attrs.now k c.in_ok-cell.cell) c.in_ok-name.ensures,
)
