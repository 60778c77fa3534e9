use Rattle.std.proofs.Common.{◌≡◌}
use Rattle.std.specs.Prelude.{option_copied}
use Rattle.std.specs.FinMap.{entries}
use Rattle.cds_stamps.specs.Firsts.{first_some}
use Rattle.image_audit.specs.PrivateOpen.{open_value}
use Rattle.image_audit.proofs.open_facts.first_value.Given as goal

abbrev pub invariant-loop-value : goal.invariant-loop-value
invariant-loop-value l =
    let told = open_value l.t l.at.name.now l.at.birth l.at.attr.now (option_copied l.other) in
    first_some told (entries l.cell.values) ≡ first_some told l.value-iterator
