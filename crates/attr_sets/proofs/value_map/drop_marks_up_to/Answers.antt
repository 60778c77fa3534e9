use Rattle.std.proofs.Common.{Bool, not, refl, rules}
use Rattle.std.specs.Prelude.{◌||◌}
use Rattle.std.specs.Cmp.Lexicographic.{nat_list_cmp_total}
use Rattle.cds_stamps.specs.Stamps.{is_up_to}
use Rattle.cds_stamps.proofs.TreeViews.{retain_left}
use Rattle.attr_sets.specs.declared.mark.ValueMark.{ValueMark}
use Rattle.attr_sets.specs.CellPurges.{mark_left}
use Rattle.attr_sets.proofs.value_map.drop_marks_up_to.Goals as goal

pub returns : goal.returns
returns c =
    let stays : ValueMark → Bool = λ m. m.present || not (is_up_to c.args.t m.stamp) in
    retain_left _ nat_list_cmp_total (mark_left c.args.t) stays (λ m. m) _ (λ m. refl) (λ k v b w f' t. search rules) c.args.marks.now
    c.retain.new.self c.retain.ensures.was_ordered c.retain.ensures.filtered
