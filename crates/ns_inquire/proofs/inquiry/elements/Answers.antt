use Rattle.std.proofs.Common.{◌≡◌, ◌∙◌, ap, map}
use Rattle.std.specs.List.{filter_map}
use Rattle.std.proofs.lemmas.Result.{IfOk-weaker}
use Rattle.ns_inquire.specs.Inquiries.{elements_of, picked_in}
use Rattle.ns_inquire.proofs.Picks.{picked_in_order}
use Rattle.ns_inquire.proofs.inquiry.elements.Goals as goal

pub returns : goal.returns
returns c =
    let q = c.args.inquiry.now in
    IfOk-weaker c.picked_of.result (λ v. v.items ≡ filter_map (picked_in q) (map (λ value. value.now) c.deref.result.now))
    (λ v. v.items ≡ elements_of q c.args.values.now)
    (λ v is. is ∙ ap (filter_map (picked_in q)) (ap (map (λ value. value.now)) c.deref.ensures.value ∙ c.in_ok-sorted.ensures)
    ∙ picked_in_order q c.args.values.now) c.picked_of.ensures
