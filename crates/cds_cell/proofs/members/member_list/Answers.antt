use Rattle.std.proofs.Common.{◌∷◌, ◌∙◌, sym, ap}
use Rattle.std.proofs.lemmas.List.{drop_all}
use Rattle.cds_stamps.specs.Members.{members_of, members_fault}
use Rattle.cell_model.specs.Steps.{is_bad_list}
use Rattle.cell_script.specs.Listings.{houses_in, secondaries_in}
use Rattle.house_directory.specs.HouseMessages.{numbers_of}
use Rattle.cds_cell.proofs.MemberLists.{good_listing, lists_end}
use Rattle.cds_cell.proofs.members.member_list.Goals as goal

pub known-requires : goal.known-requires
known-requires c =
    let rs = numbers_of (houses_in c.args.others.now) in
    let ss = numbers_of (secondaries_in c.args.others.now) in
    ap (λ ms. members_fault (members_of ms)) c.deref.ensures.value
    ∙ ap members_fault (lists_end (members_of c.args.before.now) c.args.epoch.0 c.args.master.0 rs ss _ c.loop-house.list.items
    c.loop-house.invariant (drop_all c.loop-house.house-index c.deref-house-items.result.now c.loop-house-test.false))
    ∙ good_listing (members_of c.args.before.now) c.args.epoch.0 c.args.master.0 ss rs
    (ap (λ hs. is_bad_list (c.args.master.0 ∷ numbers_of hs)) (sym c.houses.ensures) ∙ sym c.is_bad_list.ensures ∙ c.if-is_bad_list.false)
