use Rattle.std.proofs.Common.{◌≡◌, None, ◌∙◌}
use Rattle.std.specs.Cmp.Lexicographic.{nat_list_cmp_total}
use Rattle.attr_sets.specs.CellPurges.{cell_after}
use Rattle.attr_sets.proofs.PartLoops.{each_starts}
use Rattle.directory.proofs.attr_map.AttrMap.is_old.Goals as goal

pub loop-cell-init : goal.loop-cell-init
loop-cell-init c =
    each_starts nat_list_cmp_total (λ x. cell_after c.args.t x ≡ None) c.args.self.now c.self.inside.cells _ c.self.view_is
    c.iter-cell-items.ensures.ordered (c.into_iter-cell-iterator.ensures.into_iter_gives ∙ c.iter-cell-items.ensures.rest)
