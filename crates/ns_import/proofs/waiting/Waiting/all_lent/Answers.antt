use Rattle.std.proofs.Common.{◌∙◌, sym}
use Rattle.std.proofs.lemmas.List.{map-id}
use Rattle.std.proofs.lemmas.Iterator.Adapters.{YieldsList-from_vec}
use Rattle.std.proofs.lemmas.Iterator.Consumers.{YieldsList-end}
use Rattle.ns_import.proofs.waiting.Waiting.all_lent.Goals as goal

pub returns : goal.returns
returns c =
    let gives = c.into_iter-name-iterator.ensures.into_iter_gives in
    let names = YieldsList-from_vec {s = c.into_iter-name-iterator.result} c.args.names.items gives.0 (gives.1 ∙ c.args.names.ok.0) in
    let end = YieldsList-end names c.loop-name.yielded c.loop-name.name-iterator c.loop-name.yielded_by _ c.next.new.self c.in-None.is c.next.ensures.steps in
    c.loop-name.invariant.2 ∙ sym (map-id c.loop-name.yielded) ∙ end.0
