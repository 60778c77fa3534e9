use Rattle.std.proofs.Common.{◌≡◌, ℕ, List, [], ◌∷◌, refl, sym, ap, ◌∙◌, rules, tests}
use Rattle.std.specs.Prelude.{Bool, not, ◌&&◌, is_none, is_some, Option, Some, None}
use Rattle.std.specs.List.{list_all}
use Rattle.std.proofs.lemmas.Iterator.Search.{all_from_yields_List}
use Rattle.std.proofs.lemmas.Iterator.{YieldsList-from_slice}
use Rattle.std.proofs.lemmas.List.Folds.{list_all-map}
use Rattle.cds_stamps.specs.declared.numbers.HouseNo.{HouseNo}
use Rattle.cds_stamps.specs.Members.{Member, is_listed, members_of, place_of}
use Rattle.cds_cell.proofs.MemberLists.{listed_by_place}
use Rattle.house_turns.proofs.lists.none_listed.Goals as goal

none_or_some : (o : Option ℕ) → is_none o ≡ not (is_some o)
none_or_some None = refl
none_or_some (Some n) = refl

-- a house has no place exactly where it is not listed
place_none : (x : ℕ) (ms : List Member) → is_none (place_of x ms) ≡ not (is_listed x ms)
place_none x ms = none_or_some (place_of x ms) ∙ ap not (sym (listed_by_place x 0 ms))

places_none : (ms : List Member) (hs : List HouseNo)
    → list_all (λ (h : HouseNo). is_none (place_of h.0 ms)) hs ≡ list_all (λ (h : HouseNo). not (is_listed h.0 ms)) hs
places_none ms [] = refl
places_none ms (h ∷ hs) =
    ap (λ (b : Bool). b && list_all (λ (h : HouseNo). is_none (place_of h.0 ms)) hs) (place_none h.0 ms)
    ∙ ap (λ (b : Bool). not (is_listed h.0 ms) && b) (places_none ms hs)

pub returns : goal.returns
returns c =
    let ms = members_of c.args.members.now in
    all_from_yields_List (λ (h : HouseNo). is_none (place_of h.0 ms)) _ _ c.all.result c.all.ensures.ran
    (YieldsList-from_slice c.args.leaving.now (cc)) (λ x b q k. search (rules, tests))
    ∙ places_none ms c.args.leaving.now ∙ sym (list_all-map (λ (h : ℕ). not (is_listed h ms)) (λ (h : HouseNo). h.0) c.args.leaving.now)
