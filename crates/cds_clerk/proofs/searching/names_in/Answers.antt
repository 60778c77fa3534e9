use Rattle.std.proofs.Common.{ℕ, List, ◌++◌, ap, ap₂, ◌∙◌}
use Rattle.ns_groups.specs.Groups.{members_of}
use Rattle.ns_profiles.specs.Profiles.{search_order}
use Rattle.cds_clerk.proofs.searching.names_in.Goals as goal

pub returns : goal.returns
returns c = c.in_ok-append.ensures.items ∙ ap₂ (λ (a b : List (List (List ℕ))). a ++ b)
    (c.in_ok-names.ensures ∙ ap members_of (c.list.ensures ∙ c.in_ok-group.ensures))
    (c.in_ok-more.ensures ∙ ap (search_order c.args.interface.now) (c.list-2.ensures ∙ c.in_ok-profile.ensures))
