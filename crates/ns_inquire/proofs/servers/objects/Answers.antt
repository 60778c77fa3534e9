use Rattle.std.proofs.Common.{◌≡◌, ◌∙◌, ap, map, sym}
use Rattle.std.specs.Prelude.{◌==◌, length}
use Rattle.std.proofs.lemmas.Result.{IfOk-weaker}
use Rattle.cds_stamps.proofs.AscendingLaws.{ascending-filter}
use Rattle.server_entries.specs.Clients.{objects_in}
use Rattle.ns_inquire.specs.Inquiries.{objects_of}
use Rattle.ns_inquire.proofs.servers.objects.Goals as goal

pub returns : goal.returns
returns c =
    IfOk-weaker c.objects_of.result (λ v. v.items ≡ objects_in (map (λ value. value.now) c.deref.result.now))
    (λ v. v.items ≡ objects_of c.args.values.now)
    (λ v is. is ∙ ap objects_in (ap (map (λ value. value.now)) c.deref.ensures.value ∙ c.in_ok-sorted.ensures)
    ∙ sym (ascending-filter (λ o. length o == 16) c.args.values.now)) c.objects_of.ensures
