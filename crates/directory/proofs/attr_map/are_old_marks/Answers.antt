use Rattle.std.proofs.Common.{◌≡◌, None, ◌∙◌}
use Rattle.std.specs.FinMap.{entries, entries_sorted}
use Rattle.std.specs.Cmp.Lexicographic.{nat_list_cmp_total}
use Rattle.cds_stamps.specs.Octets.{octets_cmp, octets_exact}
use Rattle.attr_sets.specs.CellPurges.{mark_after}
use Rattle.attr_sets.proofs.PartLoops.{each_starts}
use Rattle.attr_sets.proofs.ShownLaws.{keys_rise}
use Rattle.directory.proofs.LaterLaws.{of_entries}
use Rattle.directory.proofs.attr_map.are_old_marks.Goals as goal

pub loop-mark-init : goal.loop-mark-init
loop-mark-init c =
    let m = c.args.marks.now in
    each_starts nat_list_cmp_total (λ m. mark_after c.args.t m ≡ None) m (entries m) _ (of_entries nat_list_cmp_total octets_exact m)
    (keys_rise octets_cmp (entries m) (entries_sorted m)) (c.into_iter-mark-iterator.ensures.into_iter_gives ∙ c.iter-mark-items.ensures)
