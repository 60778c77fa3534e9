use Rattle.std.proofs.Common.{sym, ◌∙◌, rules, tests}
use Rattle.std.specs.Prelude.{nat_le}
use Rattle.std.proofs.lemmas.Iterator.Search.{all_from_yields_List}
use Rattle.std.proofs.lemmas.Iterator.{YieldsList-from_slice}
use Rattle.std.proofs.lemmas.List.Folds.{list_all-map}
use Rattle.cds_stamps.specs.declared.members.Member as declared
use Rattle.cds_stamps.specs.Members.{Member, member_of}
use Rattle.house_turns.proofs.lists.none_later.Goals as goal

pub returns : goal.returns
returns c =
    all_from_yields_List (λ (m : declared.Member). nat_le m.since.0 c.args.epoch.0) _ _ c.all.result c.all.ensures.ran
    (YieldsList-from_slice c.args.members.now (cc)) (λ x b q k. search (rules, tests))
    ∙ sym (list_all-map (λ (m : Member). nat_le m.since c.args.epoch.0) member_of c.args.members.now)
