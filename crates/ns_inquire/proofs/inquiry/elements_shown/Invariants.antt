use Rattle.std.proofs.Common.{◌≡◌, ◌++◌}
use Rattle.std.specs.FinMap.{entries}
use Rattle.std.specs.List.{filter_map}
use Rattle.attr_sets.specs.AttributeCells.{present_in}
use Rattle.ns_inquire.specs.Inquiries.{picked_in}
use Rattle.ns_inquire.proofs.inquiry.elements_shown.Given as goal

-- what was found, and what is asked for of the values that are left, are what is asked for of all
abbrev pub invariant-loop-value : goal.invariant-loop-value
invariant-loop-value l =
    l.found.items ++ filter_map (picked_in l.inquiry) (present_in l.value-iterator) ≡ filter_map (picked_in l.inquiry) (present_in (entries l.cell.values))
