use Rattle.std.proofs.Common.{◌≡◌, ◌∙◌, List, ◌∷◌, [], true, false, ap, subst, sym}
use Rattle.std.specs.Prelude.{MatchOption}
use Rattle.std.proofs.lemmas.Bool.{false≢true}
use Rattle.cds_stamps.specs.declared.numbers.HouseNo.{HouseNo}
use Rattle.cds_stamps.specs.Members.{master_of, members_of}
use Rattle.directory.specs.Updates as updates
use Rattle.directory.specs.Updates.{Change, change_of}
use Rattle.cell_model.specs.Steps.{Outcome, sorted_houses, is_bad_list, member_list_of}
use Rattle.cell_model.proofs.Terms.{master_new}
use Rattle.cell_script.specs.Listings.{houses_in, secondaries_in}
use Rattle.house_directory.specs.HouseMessages.{numbers_of}
use Rattle.cds_cell.proofs.Children.{child_apart, child_can, child_next, mkdir_is, mkdir_listed, mkdir_placed, mkdir_up}
use Rattle.cds_cell.proofs.Houses.{place_within}
use Rattle.cds_cell.specs.PrivateSteps.{ComesTo}
use Rattle.cds_cell.proofs.cell.Cell.make_directory.Goals as goal

pub returns-in_default-clause-step : goal.returns-in_default-clause-step
returns-in_default-clause-step c g s none =
    let rs = numbers_of (houses_in c.args.others.now) in
    let ss = numbers_of (secondaries_in c.args.others.now) in
    absurd (mkdir_placed c.args.self.now g c.args.house.0 c.args.dir.0 c.args.master.0 c.args.name rs ss s none c.in_default.ensures)

pub returns-in_default-2-clause-step : goal.returns-in_default-2-clause-step
returns-in_default-2-clause-step c g s none =
    let m = c.args.master.0 in
    let rs = numbers_of (houses_in c.args.others.now) in
    let ss = numbers_of (secondaries_in c.args.others.now) in
    let bad : is_bad_list (m ∷ rs) ≡ true = subst (λ o. MatchOption o (is_bad_list (m ∷ rs) ≡ true) (λ ms. (is_bad_list (m ∷ rs) ≡ false)
    × (members_of ms ≡ member_list_of [] 1 m rs ss))) c.in_default-2.is c.in_ok-members.ensures in
    absurd (false≢true (sym (mkdir_listed c.args.self.now g c.args.house.0 c.args.dir.0 m c.args.name rs ss s none) ∙ bad))

pub make_child-requires-clause-house : goal.make_child-requires-clause-house
make_child-requires-clause-house c = place_within c.args.self.now.houses.items c.args.house.0 c.in-Some.at c.in-Some.ensures

pub returns-clause-step : goal.returns-clause-step
returns-clause-step c g s none =
    let old = c.args.self.now in
    let h = c.args.house.0 in
    let d = c.args.dir.0 in
    let m = c.args.master.0 in
    let n = c.args.name in
    let rs = numbers_of (houses_in c.args.others.now) in
    let ss = numbers_of (secondaries_in c.args.others.now) in
    let k = c.next_directory-child.result.0 in
    let ms = members_of c.in-Some-2.members in
    let u = change_of c.in-Some-3.update in
    let listed = subst (λ o. MatchOption o (is_bad_list (m ∷ rs) ≡ true) (λ ms. (is_bad_list (m ∷ rs) ≡ false)
    × (members_of ms ≡ member_list_of [] 1 m rs ss))) c.in-Some-2.is c.in_ok-members.ensures in
    let hs = c.houses.result.now in
    let child : List HouseNo → Change = λ hs. updates.MakeChild n (record { dir = k; master = m; others = sorted_houses (numbers_of hs) }) in
    let made = subst (λ o. MatchOption o (is_bad_list (m ∷ numbers_of hs) ≡ true) (λ u. change_of u ≡ child hs)) c.in-Some-3.is c.in_ok-update.ensures
    ∙ ap child c.houses.ensures in
    let next = child_next old g h d m n rs ss s none k c.next_directory-child.ensures in
    let lead = ap master_of listed.1 ∙ master_new [] 1 m rs ss in
    subst (λ (o : Outcome). ComesTo c.make_child.result c.make_child.new.self o)
    (mkdir_is old g h d m n rs ss s none k u ms next made listed.1)
    (c.make_child.ensures.step g h s.stands c.in-Some.ensures (mkdir_up old g h d m n rs ss s none)
    (child_apart old g h d m n rs ss s none k next) c.next_directory-child.ensures
    (child_can old g h d m n rs ss s none k (master_of ms) next lead))
