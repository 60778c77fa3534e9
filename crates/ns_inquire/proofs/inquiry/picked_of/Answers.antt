use Rattle.std.proofs.Common.{◌++◌, List, sym, ap, ◌∙◌, map, take}
use Rattle.std.specs.List.{filter_map}
use Rattle.std.specs.Option.{option_to_list}
use Rattle.server_entries.proofs.ListSteps.{as_list, gives_more}
use Rattle.ns_profiles.specs.declared.element.Element.{Element}
use Rattle.ns_inquire.specs.Inquiries.{picked_in}
use Rattle.ns_inquire.proofs.inquiry.picked_of.Goals as goal

pub loop-value-preserved : goal.loop-value-preserved
loop-value-preserved c =
    let h = picked_in c.args.inquiry.now in
    let value = c.value-item.result in
    let items = c.args.values.now in
    let i = c.loop-value.value-index in
    c.in_ok-push_some.ensures
    ∙ ap (λ o. c.loop-value.found.items ++ option_to_list o) c.in_ok-picked.ensures.picked
    ∙ ap (λ (es : List Element). es ++ option_to_list (h value.now)) c.loop-value.invariant
    ∙ ap (λ (es : List Element). filter_map h (map (λ v. v.now) (take i items)) ++ es) (as_list (h value.now))
    ∙ sym (gives_more (λ v. v.now) h items i value c.loop-value-test.true c.value-item.is)
