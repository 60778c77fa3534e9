use Rattle.std.proofs.Common.{◌∙◌, rules, tests, ap}
use Rattle.std.specs.Prelude.{◌&&◌, ◌==◌}
use Rattle.std.proofs.lemmas.Iterator.Search.{any_from_yields_List}
use Rattle.std.proofs.lemmas.Iterator.{YieldsList-from_slice}
use Rattle.cds_stamps.specs.declared.members.Member.{Member}
use Rattle.cds_stamps.specs.Members.{accepts_updates, is_accepting, members_of}
use Rattle.house_directory.proofs.MemberLists.{accepting_any}
use Rattle.house_directory.proofs.states.Held.accepts_from.Goals as goal

pub returns : goal.returns
returns c =
    any_from_yields_List (λ (m : Member). (m.house.0 == c.args.house.0) && accepts_updates m.kind) _ _ c.any.result c.any.ensures.ran
    (YieldsList-from_slice c.list.result.now (cc)) (λ x b q k. search (rules, tests))
    ∙ accepting_any c.args.house.0 c.list.result.now ∙ ap (λ ms. is_accepting c.args.house.0 (members_of ms)) c.list.ensures.value
