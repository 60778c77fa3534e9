use Rattle.std.proofs.Common.{ℕ, List, subst, sym}
use Rattle.std.specs.Prelude.{◌↔◌, eqb}
use Rattle.std.specs.List.{Contains}
use Rattle.std.specs.List.Sorted.{IsStrictlySortedBy}
use Rattle.std.specs.Ordering.{nat_cmp}
use Rattle.std.proofs.lemmas.List.Filters.{dedup_is}
use Rattle.cds_clerk.proofs.UnreachedLaws.{once_ascend, once_same}
use Rattle.cds_clerk.proofs.reaching.in_order.Goals as goal

pub returns-clause-ascending : goal.returns-clause-ascending
returns-clause-ascending c =
    let sorted = c.sort_unstable.new.self.items in
    subst (IsStrictlySortedBy nat_cmp) (sym (dedup_is eqb _ _ c.dedup.ensures.filtered)) (once_ascend sorted c.sort_unstable.ensures.sorted)

pub returns-clause-same : goal.returns-clause-same
returns-clause-same c =
    let sorted = c.sort_unstable.new.self.items in
    let given = c.args.numbers.items in
    subst (λ (ns : List ℕ). (n : ℕ) → Contains ns n ↔ Contains given n) (sym (dedup_is eqb _ _ c.dedup.ensures.filtered))
    (once_same given sorted c.sort_unstable.ensures.permutation)
