use Rattle.std.proofs.Common.{◌≢◌, ℕ, List, Bor, ap, ◌∙◌, map, arith}
use Rattle.std.specs.Option.{option_copied}
use Rattle.directory.specs.Updates.{Remove}
use Rattle.directory.specs.EntryChanges.{changes}
use Rattle.ns_profiles.specs.Profiles.{profile}
use Rattle.ns_profiles.proofs.Searches.{deleted_answer}
use Rattle.ns_profiles.proofs.updates.delete.Goals as goal

pub returns-clause-answer : goal.returns-clause-answer
returns-clause-answer c =
    let found = c.in_ok-found.found in
    let sorted = c.in_order-sorted.result.items in
    let name = c.args.name.now in
    let some : found.len ≢ 0 = λ e. grind (arith, e, c.is_empty.ensures, c.if-is_empty.false) in
    deleted_answer name (option_copied c.args.interface) c.args.member.now c.args.values.now found.len found.items sorted
    (changes c.in_ok-removals.field-0.items)
    some c.in_ok-found.ensures.some c.in_ok-found.ensures.found c.in_order-sorted.ensures
    (c.in_ok-removals.ensures ∙ ap (map (λ (value : Bor (List ℕ)). Remove name profile value.now)) c.deref.ensures.value)
