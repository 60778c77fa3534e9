use Rattle.std.proofs.Common.{◌∙◌}
use Rattle.std.specs.Cmp.Lexicographic.{nat_list_cmp_total}
use Rattle.cds_stamps.specs.Octets.{octets_exact}
use Rattle.attr_sets.specs.CellPurges.{mark_after}
use Rattle.attr_sets.proofs.PartLoops.{whole_starts}
use Rattle.attr_sets.proofs.value_map.ValueMap.is_after.Goals as goal

pub loop-mark-init : goal.loop-mark-init
loop-mark-init c =
    whole_starts nat_list_cmp_total octets_exact (mark_after c.args.t) c.args.self.now c.self.inside.marks _ c.self.view_is
    c.iter-mark-items.ensures.ordered (c.into_iter-mark-iterator.ensures.into_iter_gives ∙ c.iter-mark-items.ensures.rest)
