use Rattle.std.proofs.Common.{◌∙◌, ap}
use Rattle.ns_inquire.specs.Inquiries.{interfaces_of, objects_of}
use Rattle.inquire_forms.specs.Inquired.{Entries}
use Rattle.inquire_forms.proofs.inquire_answer.entry_in.Goals as goal

pub returns : goal.returns
returns g c =
    let interfaces = c.in_ok-interfaces.ensures ∙ ap interfaces_of (c.deref.ensures.value ∙ c.in_ok-towers.ensures) in
    let objects = c.in_ok-objects.ensures ∙ ap objects_of (c.deref-2.ensures.value ∙ c.in_ok-held.ensures) in
    λ i. Entries (interfaces i) (objects i)
