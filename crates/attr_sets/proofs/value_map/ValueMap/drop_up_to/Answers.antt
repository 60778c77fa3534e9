use Rattle.std.proofs.Common.{sym, ap, ◌∙◌}
use Rattle.std.specs.FinMap as map
use Rattle.std.specs.Option.{option_and_then}
use Rattle.std.specs.Cmp.Lexicographic.{nat_list_cmp_total}
use Rattle.cds_stamps.specs.Octets.{octets_exact}
use Rattle.cds_stamps.specs.Keyed.{map_some, get-map_some}
use Rattle.cds_stamps.proofs.TreeViews.{get-view}
use Rattle.attr_sets.specs.CellPurges.{mark_left}
use Rattle.attr_sets.proofs.value_map.ValueMap.drop_up_to.Goals as goal

pub returns : goal.returns
returns c = map.same_map nat_list_cmp_total octets_exact _ (map_some (mark_left c.args.t) c.args.self.now) (λ q.
    get-view nat_list_cmp_total c.drop_marks_up_to.new.marks q ∙ c.drop_marks_up_to.ensures q
    ∙ ap (option_and_then (mark_left c.args.t)) (sym (get-view nat_list_cmp_total c.self.inside.marks q) ∙ ap (λ m. map.get m q) c.self.view_is)
    ∙ sym (get-map_some nat_list_cmp_total octets_exact (mark_left c.args.t) c.args.self.now q))
