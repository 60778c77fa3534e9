use Rattle.std.proofs.Common.{true}
use Rattle.attr_sets.specs.AttributeCells.{Marked}
use Rattle.directory.specs.Kinds.{link_target, replicas}
use Rattle.directory.specs.declared.entry.Kind.TheVariants.{Object, Link, Child}
use Rattle.directory.proofs.FragmentLaws.{born_fragment, led_fragment}
use Rattle.directory.proofs.entry_map.EntryMap.fragment.Goals as goal

pub returns-in-Create-clause-entry : goal.returns-in-Create-clause-entry
returns-in-Create-clause-entry c =
    rw c.in-Create.is (born_fragment c.born.result c.in-Create.name Object c.args.stamp c.born.ensures.name c.new.result c.new.ensures c.born.ensures.entry)

pub returns-in_ok-value-in-MakeLink-clause-entry : goal.returns-in_ok-value-in-MakeLink-clause-entry
returns-in_ok-value-in-MakeLink-clause-entry c =
    rw (c.in-MakeLink.is, ← c.in_ok-value-in-MakeLink.ensures)
    (led_fragment c.born_with.result c.in-MakeLink.name Link c.args.stamp c.born_with.ensures.name link_target (Marked c.in_ok-value-in-MakeLink.value
    (record { present = true; stamp = c.args.stamp })) c.born_with.ensures.entry)

pub returns-in_ok-value-in-MakeChild-clause-entry : goal.returns-in_ok-value-in-MakeChild-clause-entry
returns-in_ok-value-in-MakeChild-clause-entry c =
    rw (c.in-MakeChild.is, ← c.in_ok-value-in-MakeChild.ensures)
    (led_fragment c.born_with-in-MakeChild.result c.in-MakeChild.name Child c.args.stamp c.born_with-in-MakeChild.ensures.name replicas
    (Marked c.in_ok-value-in-MakeChild.value (record { present = true; stamp = c.args.stamp })) c.born_with-in-MakeChild.ensures.entry)
