use Rattle.std.proofs.Common.{◌≡◌, map, take}
use Rattle.std.specs.List.{filter_map}
use Rattle.ns_inquire.specs.Inquiries.{picked_in}
use Rattle.ns_inquire.proofs.inquiry.picked_of.Given as goal

abbrev pub invariant-loop-value : goal.invariant-loop-value
invariant-loop-value l = l.found.items ≡ filter_map (picked_in l.inquiry) (map (λ value. value.now) (take l.value-index l.values))
