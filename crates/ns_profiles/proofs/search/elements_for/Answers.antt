use Rattle.std.proofs.Common.{◌≡◌, ℕ, List, IfOk, ap, subst, ◌∙◌, map, filter}
use Rattle.cds_stamps.specs.Ascending.{in_ascending_order}
use Rattle.ns_profiles.specs.Elements.{element_of_octets}
use Rattle.ns_profiles.specs.Profiles.{is_sought}
use Rattle.ns_profiles.proofs.Searches.{behind, members_in_order}
use Rattle.ns_profiles.proofs.search.elements_for.Goals as goal

pub returns : goal.returns
returns c =
    let sorted : behind c.deref.result.now ≡ in_ascending_order c.args.values.now = ap behind c.deref.ensures.value ∙ c.in_ok-sorted.ensures in
    let members = ap (λ (vs : List (List ℕ)). map (λ v. (element_of_octets v).member) (filter (is_sought c.args.interface.now) vs)) sorted
    ∙ members_in_order c.args.interface.now c.args.values.now in
    subst (λ (names : List (List (List ℕ))). IfOk c.copies.result (λ v. v.items ≡ names))
    (c.deref-2.ensures.value ∙ c.in_ok-names.ensures ∙ members) c.copies.ensures
