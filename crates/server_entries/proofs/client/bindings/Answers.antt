use Rattle.std.proofs.Common.{◌≡◌, ℕ, List, IfOk, ap, ap₂, subst, ◌∙◌, map}
use Rattle.cds_stamps.specs.Ascending.{in_ascending_order}
use Rattle.tower_codec.specs.declared.binding.StringBinding.{StringBinding}
use Rattle.server_entries.specs.Clients.{bindings_of}
use Rattle.server_entries.proofs.client.bindings.Goals as goal

pub returns : goal.returns
returns c =
    let sorted : map (λ v. v.now) c.deref.result.now ≡ in_ascending_order c.args.towers.now = ap (map (λ v. v.now)) c.deref.ensures.value ∙ c.in_ok-towers.ensures in
    let all : map (λ v. v.now) c.deref-2.result.now ≡ c.args.objects.now = ap (map (λ v. v.now)) c.deref-2.ensures.value ∙ c.in_ok-objects.ensures in
    subst (λ (list : List StringBinding). IfOk c.bindings_in_order.result (λ v. v.items ≡ list))
    (ap₂ (bindings_of c.args.wanted.now) sorted all) c.bindings_in_order.ensures
