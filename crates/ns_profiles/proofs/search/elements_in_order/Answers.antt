use Rattle.std.proofs.Common.{◌≡◌, ℕ, List, IfOk, ap, subst, ◌∙◌, map, filter}
use Rattle.ns_profiles.specs.Elements.{element_of_octets}
use Rattle.ns_profiles.specs.Profiles.{is_sought}
use Rattle.ns_profiles.proofs.Searches.{behind, all_whole, map_behind}
use Rattle.ns_profiles.proofs.search.elements_in_order.Goals as goal

pub members_of-requires : goal.members_of-requires
members_of-requires c =
    all_whole c.args.interface.now (behind c.args.values.now) c.deref.result.now (ap behind c.deref.ensures.value ∙ c.in_ok-found.ensures)

pub returns : goal.returns
returns c =
    let found : behind c.deref.result.now ≡ filter (is_sought c.args.interface.now) (behind c.args.values.now) =
    ap behind c.deref.ensures.value ∙ c.in_ok-found.ensures in
    let members = map_behind (λ v. (element_of_octets v).member) c.deref.result.now ∙ ap (map (λ (v : List ℕ). (element_of_octets v).member)) found in
    subst (λ (names : List (List (List ℕ))). IfOk c.members_of.result (λ v. v.items ≡ names)) members c.members_of.ensures
