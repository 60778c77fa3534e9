use Rattle.std.proofs.Common.{map, ap, ◌∙◌}
use Rattle.std.specs.Prelude.{nat_eq}
use Rattle.std.specs.Cmp.Lexicographic.{pointwise}
use Rattle.std.proofs.lemmas.List.Filters.{dedup_is}
use Rattle.attr_sets.proofs.SortedValues.{seen_once}
use Rattle.attr_sets.proofs.order.in_order.Goals as goal

pub returns : goal.returns
returns c =
    ap (map (λ v. v.now)) (dedup_is (λ a b. pointwise nat_eq a.now b.now) _ _ c.dedup.ensures.filtered)
    ∙ seen_once (λ v. v.now) c.args.values.items c.sort_unstable.new.self.items c.sort_unstable.ensures.permutation c.sort_unstable.ensures.sorted
