use Rattle.std.proofs.Common.{◌++◌, List, sym, ap, ◌∙◌, map, take}
use Rattle.std.specs.List.{filter_map}
use Rattle.std.specs.Option.{option_to_list}
use Rattle.tower_codec.specs.declared.binding.StringBinding.{StringBinding}
use Rattle.server_entries.specs.Clients.{binding_in}
use Rattle.server_entries.proofs.ListSteps.{as_list, gives_more}
use Rattle.server_entries.proofs.client.Wanted.bindings_in.Goals as goal

pub loop-value-preserved : goal.loop-value-preserved
loop-value-preserved c =
    let h = binding_in c.args.self.now c.args.object in
    let value = c.value-item.result in
    let items = c.args.towers.now in
    let i = c.loop-value.value-index in
    c.in_ok-push_some.ensures
    ∙ ap (λ o. c.loop-value.list.items ++ option_to_list o) c.binding_in.ensures
    ∙ ap (λ (bs : List StringBinding). bs ++ option_to_list (h value.now)) c.loop-value.invariant
    ∙ ap (λ (bs : List StringBinding). filter_map h (map (λ v. v.now) (take i items)) ++ bs) (as_list (h value.now))
    ∙ sym (gives_more (λ v. v.now) h items i value c.loop-value-test.true c.value-item.is)
