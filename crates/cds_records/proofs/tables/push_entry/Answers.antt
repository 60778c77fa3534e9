use Rattle.std.proofs.Common.{[], ◌∷◌, ◌++◌, ◌∙◌, ap, refl}
use Rattle.record_fields.specs.ListLayouts.{item}
use Rattle.cds_records.proofs.tables.push_entry.Goals as goal

pub returns : goal.returns
unfolding item
returns c = (
  c.in_ok-entry.entry,
  rw (c.in_ok-own.ensures.read, c.in_ok-entry.ensures) refl,
  c.in_ok-push.ensures.items ∙ ap (λ k. c.args.entries.now.items ++ (k, c.in_ok-entry.entry) ∷ []) c.in_ok-name.ensures,
)
