use Rattle.std.proofs.Common.{◌≡◌, sym, ◌∙◌}
use Rattle.cds_stamps.specs.Keyed.{ties_are_equal}
use Rattle.cds_stamps.specs.Octets.{octets_exact}
use Rattle.cell_names.specs.FullNames.{full_name_octets}
use Rattle.ns_groups.proofs.ValueTests.{found_at}
use Rattle.ns_groups.proofs.updates.value_of.Goals as goal

pub returns-then-is_spelled : goal.returns-then-is_spelled
returns-then-is_spelled c =
    let name = full_name_octets c.args.name.now in
    let is : c.value-item.result ≡ name =
    sym c.octets.ensures ∙ sym (ties_are_equal octets_exact name c.octets.result.now (sym c.is_spelled.ensures.value ∙ c.if-is_spelled.true)) in
    (found_at name c.args.values.now c.loop-value.value-index c.value-item.result c.loop-value-test.true c.value-item.is is, is)
