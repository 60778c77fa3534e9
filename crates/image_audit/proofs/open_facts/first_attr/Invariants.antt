use Rattle.std.proofs.Common.{◌≡◌}
use Rattle.std.specs.Prelude.{option_copied}
use Rattle.std.specs.FinMap.{entries}
use Rattle.cds_stamps.specs.Firsts.{first_some}
use Rattle.image_audit.specs.PrivateOpen.{open_attr}
use Rattle.image_audit.proofs.open_facts.first_attr.Given as goal

abbrev pub invariant-loop-attr : goal.invariant-loop-attr
invariant-loop-attr l =
    let told = open_attr l.t l.name l.entry.birth (option_copied l.same) in
    first_some told (entries l.entry.attrs) ≡ first_some told l.attr-iterator
