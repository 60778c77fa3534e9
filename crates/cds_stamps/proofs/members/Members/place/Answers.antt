use Rattle.std.proofs.Common.{◌∙◌, ap, rules, tests}
use Rattle.std.specs.Prelude.{◌==◌}
use Rattle.std.proofs.lemmas.Iterator.{YieldsList-from_slice}
use Rattle.std.proofs.lemmas.Iterator.Adapters.{position_from-zero}
use Rattle.std.proofs.lemmas.Iterator.Search.{position_from_yields_List}
use Rattle.cds_stamps.specs.Members.{member_of, place_of, members_of}
use Rattle.cds_stamps.proofs.MemberLaws.{position_from-map}
use Rattle.cds_stamps.proofs.members.Members.place.Goals as goal

pub returns : goal.returns
returns c =
    position_from_yields_List
    (λ m. m.house.0 == c.args.house.0) _ _ _ c.position.ensures.ran (YieldsList-from_slice c.deref.result.now cc) (λ x b q k. search
    (rules, tests))
    ∙ position_from-zero (λ m. m.house.0 == c.args.house.0) c.deref.result.now
    ∙ position_from-map member_of (λ m. m.house == c.args.house.0) 0 c.deref.result.now
    ∙ ap (λ ms. place_of c.args.house.0 (members_of ms)) (c.deref.ensures.value ∙ c.self.view_is)
