use Rattle.std.proofs.Common.{◌≡◌, ◌∙◌, ◌+◌, ◌++◌, [], ap, drop, map}
use Rattle.std.specs.List.{filter_map}
use Rattle.std.specs.Option.{option_map_or}
use Rattle.cds_stamps.specs.Firsts.{firsts, if_new}
use Rattle.tower_codec.specs.Serving.{same_interface}
use Rattle.ns_inquire.specs.Inquiries.{interface_in}
use Rattle.ns_inquire.proofs.InterfaceLaws.{one_more_value}
use Rattle.ns_inquire.proofs.servers.interfaces_of.Goals as goal

pub loop-value-preserved : goal.loop-value-preserved
loop-value-preserved c =
    let keys = c.loop-value.found.keys in
    let towers = c.args.towers.now in
    let at = c.loop-value.value-index in
    let value = c.value-item.result in
    let new : c.insert_some.new.found.keys ≡ keys ++ option_map_or (if_new same_interface keys) (interface_in value.now) [] =
    c.in_ok-insert_some.ensures ∙ ap (λ o. keys ++ option_map_or (if_new same_interface keys) o []) c.interface_in.ensures in
    (λ i. new i ++ firsts same_interface (new i) (filter_map interface_in (map (λ v. v.now) (drop (at + 1) towers))))
    ∙ one_more_value keys towers at value c.loop-value-test.true c.value-item.is ∙ c.loop-value.invariant
