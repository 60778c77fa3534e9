use Rattle.std.proofs.Common.{◌≡◌, drop}
use Rattle.clerk_lines.specs.ShownEntries.{attr_values}
use Rattle.clerk_lines.proofs.shown.ShownAttrs.values.Given as goal

abbrev pub invariant-loop-attr : goal.invariant-loop-attr
invariant-loop-attr l = attr_values l.name l.self ≡ attr_values l.name (drop l.attr-index l.self)
