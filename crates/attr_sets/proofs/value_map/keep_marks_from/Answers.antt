use Rattle.std.proofs.Common.{◌≡◌, ℕ, Bool, not, List, ap, ◌∙◌, rules}
use Rattle.std.specs.List.{filter}
use Rattle.std.specs.Map.{lookup}
use Rattle.std.specs.BTreeMap.{is_at}
use Rattle.std.specs.Cmp.{eq_by_cmp_equiv}
use Rattle.std.specs.Cmp.Lexicographic.{nat_list_cmp_total}
use Rattle.std.proofs.lemmas.Map.Made.{filter_same_pairs}
use Rattle.std.proofs.lemmas.Map.Keys.{IsDistinct-from_sorted}
use Rattle.std.proofs.lemmas.Map.Entries.{lookup-filter-values}
use Rattle.attr_sets.specs.declared.mark.ValueMark.{ValueMark}
use Rattle.cds_stamps.specs.Stamps.{is_earlier}
use Rattle.cds_stamps.specs.Octets.{octets_cmp}
use Rattle.attr_sets.specs.CellLawProofs.{option_filter-kept}
use Rattle.attr_sets.proofs.value_map.keep_marks_from.Goals as goal

pub returns : goal.returns
returns c = λ q.
    let p : ValueMark → Bool = λ m. not (is_earlier m.stamp c.args.clear) in
    let e : c.retain.new.self ≡ filter (λ e. p e.1) c.args.marks.now =
    filter_same_pairs _ (λ (e : List ℕ × ValueMark). p e.1) _ (λ k v b w f' t. search rules) _ _ c.retain.ensures.filtered in
    ap (lookup (is_at (octets_cmp q))) e
    ∙ lookup-filter-values (eq_by_cmp_equiv nat_list_cmp_total) p q c.args.marks.now (IsDistinct-from_sorted octets_cmp _ c.retain.ensures.was_ordered)
    ∙ option_filter-kept c.args.clear _
