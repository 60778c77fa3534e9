use Rattle.std.proofs.Common.{◌≡◌, ℕ, List, subst, sym, ap, ◌∙◌, map, filter, IfOk}
use Rattle.cds_stamps.specs.Ascending.{in_ascending_order}
use Rattle.cds_stamps.proofs.AscendingLaws.{ascending-filter}
use Rattle.cell_names.specs.FullNames.{components_of, is_full_name}
use Rattle.ns_groups.proofs.member.members.Goals as goal

pub returns : goal.returns
returns c =
    let values = c.args.values.now in
    let sorted : map (λ v. v.now) c.deref.result.now ≡ in_ascending_order values = ap (map (λ v. v.now)) c.deref.ensures.value ∙ c.in_ok-sorted.ensures in
    let members : map components_of (filter is_full_name (map (λ v. v.now) c.deref.result.now)) ≡ map components_of (in_ascending_order (filter is_full_name values)) =
    ap (λ (vs : List (List ℕ)). map components_of (filter is_full_name vs)) sorted ∙ ap (map components_of) (sym (ascending-filter is_full_name values)) in
    subst (λ (names : List (List (List ℕ))). IfOk c.copies.result (λ v. v.items ≡ names))
    (c.deref-2.ensures.value ∙ c.in_ok-names.ensures ∙ members) c.copies.ensures
