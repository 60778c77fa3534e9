use Rattle.std.proofs.Common.{◌≡◌, ◌++◌, [], map, drop}
use Rattle.std.specs.List.{filter_map}
use Rattle.cds_stamps.specs.Firsts.{firsts}
use Rattle.tower_codec.specs.Serving.{same_interface}
use Rattle.ns_inquire.specs.Inquiries.{interface_in}
use Rattle.ns_inquire.proofs.servers.interfaces_of.Given as goal

-- what was found, and what is found first of the rest, is what is found of all
abbrev pub invariant-loop-value : goal.invariant-loop-value
invariant-loop-value l =
    l.found.keys ++ firsts same_interface l.found.keys (filter_map interface_in (map (λ value. value.now) (drop l.value-index l.towers)))
    ≡ firsts same_interface [] (filter_map interface_in (map (λ value. value.now) l.towers))
