use Rattle.std.proofs.Common.{◌≡◌, filter, take, ap, ◌∙◌, arith}
use Rattle.std.specs.Option.{option_copied}
use Rattle.std.proofs.lemmas.List.{take_all}
use Rattle.ns_profiles.specs.Profiles.{is_element}
use Rattle.ns_profiles.proofs.Searches.{none_found}
use Rattle.ns_profiles.proofs.search.elements_of.Goals as goal

pub returns-clause-some : goal.returns-clause-some
returns-clause-some c =
    let p = is_element (option_copied c.args.interface) c.args.member.now in
    let found = c.loop-value.found in
    let all : take c.loop-value.value-index c.args.values.now ≡ c.args.values.now = take_all c.loop-value.value-index c.args.values.now (omega arith) in
    none_found p found.len found.items c.args.values.now (omega arith) (c.loop-value.invariant ∙ ap (filter p) all)
