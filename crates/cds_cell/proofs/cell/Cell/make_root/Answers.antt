use Rattle.std.proofs.Common.{[], ◌≡◌, ◌∷◌, true, false, subst}
use Rattle.std.specs.Prelude.{MatchOption}
use Rattle.cds_stamps.specs.Members.{members_of}
use Rattle.cell_model.specs.Steps.{is_bad_list, member_list_of}
use Rattle.cell_script.specs.Listings.{houses_in, secondaries_in}
use Rattle.house_directory.specs.HouseMessages.{numbers_of}
use Rattle.cds_cell.proofs.NewDirectories.{root_comes}
use Rattle.cds_cell.proofs.cell.Cell.make_root.Goals as goal

pub returns-clause-step : goal.returns-clause-step
returns-clause-step c g s none =
    let m = c.args.master.0 in
    let rs = numbers_of (houses_in c.args.others.now) in
    let ss = numbers_of (secondaries_in c.args.others.now) in
    let listed = subst (λ o. MatchOption o (is_bad_list (m ∷ rs) ≡ true) (λ ms. (is_bad_list (m ∷ rs) ≡ false)
    × (members_of ms ≡ member_list_of [] 1 m rs ss))) c.in-Some.is c.in_ok-members.ensures in
    root_comes c.args.self.now g m rs ss s none c.found.new.self (members_of c.in-Some.members) c.new-serials.result c.found.new.serials listed.1
    c.new-serials.ensures
    (λ can first. c.in_ok-found.ensures.founds g s.stands can first)
