use Rattle.std.proofs.Common.{◌≡◌, ◌+◌, ◌<◌, ◌∷◌, ◌∙◌, true, false, ap, arith, refl, subst, sym}
use Rattle.std.specs.Prelude.{MatchOption, length}
use Rattle.std.proofs.lemmas.Option.{slice_get_read}
use Rattle.cds_stamps.specs.declared.numbers.EpochNo.{EpochNo}
use Rattle.cds_stamps.specs.Members.{members_of}
use Rattle.cell_model.specs.Steps.{is_bad_list, member_list_of}
use Rattle.cell_script.specs.Listings.{houses_in, secondaries_in}
use Rattle.house_directory.specs.HouseMessages.{numbers_of}
use Rattle.cds_cell.specs.declared.console.Listing.{Listing}
use Rattle.cds_cell.proofs.EpochSteps.{epoch_call, epoch_leaves, epoch_placed, epoch_refused, epoch_taken, greatest_at}
use Rattle.cds_cell.proofs.Houses.{place_within}
use Rattle.cds_cell.proofs.cell.Cell.new_epoch.Goals as goal

pub returns-in_default-position-clause-step : goal.returns-in_default-position-clause-step
returns-in_default-position-clause-step c g s none =
    absurd (epoch_placed c.args.self.now g c.args.dir.0 c.args.master.0 (numbers_of (houses_in c.args.others.now)) (numbers_of (secondaries_in c.args.others.now)) s none c.in_default-position.ensures)

pub overflow_add-epoch : goal.overflow_add-epoch
overflow_add-epoch c =
    let ls = c.args.self.now.directories.items in
    let l : Listing = c.index-before.result.now in
    let high = greatest_at ls c.in-Some.place l (slice_get_read ls (length ls) c.in-Some.place l refl c.in-Some.ensures.1 c.index-before.ensures) in
    let room = c.requires.room.epochs in
    omega (arith, high, room)

pub enter_at-requires-clause-house : goal.enter_at-requires-clause-house
enter_at-requires-clause-house c = place_within c.args.self.now.houses.items c.args.master.0 c.in-Some-position.at c.in-Some-position.ensures

pub returns-in-Ok-clause-leaves : goal.returns-in-Ok-clause-leaves
returns-in-Ok-clause-leaves c =
    let l : Listing = c.index-before.result.now in
    epoch_leaves c.args.self.now c.enter_at.new.self _ c.in-Some.place l (record { epoch = record { 0 = l.epoch.0 + 1 }; members = c.in-Some-2.members })
    (record { 0 = l.epoch.0 + 1 }) c.enter_at.new.serials c.in-Some.ensures.1 c.index-before.ensures refl c.in_ok-enter_at.ensures.rest
    c.in_ok-enter_at.ensures.few refl refl refl

pub returns-in-Ok-clause-step : goal.returns-in-Ok-clause-step
returns-in-Ok-clause-step c g s none =
    let l : Listing = c.index-before.result.now in
    let e : EpochNo = record { 0 = l.epoch.0 + 1 } in
    let m = c.args.master.0 in
    let rs = numbers_of (houses_in c.args.others.now) in
    let ss = numbers_of (secondaries_in c.args.others.now) in
    let ms = members_of c.in-Some-2.members in
    let left = numbers_of c.deref.result.now in
    let listed = subst (λ o. MatchOption o (is_bad_list (m ∷ rs) ≡ true) (λ ms. (is_bad_list (m ∷ rs) ≡ false)
    × (members_of ms ≡ member_list_of (members_of c.list.result.now) e.0 m rs ss))) c.in-Some-2.is c.in_ok-members.ensures in
    let call = epoch_call c.args.self.now g c.args.dir.0 m rs ss s none c.in-Some.place c.in-Some-position.at l e c.list.result.now c.list-2.result.now ms left
    c.in-Some.ensures.0 c.in-Some.ensures.1 c.index-before.ensures c.in-Some-position.ensures refl c.list.ensures.value c.list-2.ensures.value listed.1
    (ap numbers_of c.deref.ensures.value ∙ c.in_ok-left.ensures.houses) in
    let within = subst (λ v. c.in-Some.place < length v.items) (sym c.in_ok-enter_at.ensures.rest.directories) c.in-Some.ensures.1 in
    epoch_taken c.args.self.now g c.args.dir.0 m rs ss s none c.enter_at.new.self c.in-Some-position.at e ms left c.new-serials.result c.enter_at.new.serials
    c.new-serials.ensures call _ c.in-Some.place (record { epoch = e; members = c.in-Some-2.members }) c.in_ok-enter_at.field-0 c.in-Ok.field-0 c.in-Ok.is
    (c.in_ok-enter_at.ensures.acts (g.house m) call.leads call.later) c.in-Some.ensures.0 within refl refl refl refl refl refl

pub returns-in-Err-clause-step : goal.returns-in-Err-clause-step
returns-in-Err-clause-step c g s none =
    let l : Listing = c.index-before.result.now in
    let e : EpochNo = record { 0 = l.epoch.0 + 1 } in
    let m = c.args.master.0 in
    let rs = numbers_of (houses_in c.args.others.now) in
    let ss = numbers_of (secondaries_in c.args.others.now) in
    let ms = members_of c.in-Some-2.members in
    let left = numbers_of c.deref.result.now in
    let listed = subst (λ o. MatchOption o (is_bad_list (m ∷ rs) ≡ true) (λ ms. (is_bad_list (m ∷ rs) ≡ false)
    × (members_of ms ≡ member_list_of (members_of c.list.result.now) e.0 m rs ss))) c.in-Some-2.is c.in_ok-members.ensures in
    let call = epoch_call c.args.self.now g c.args.dir.0 m rs ss s none c.in-Some.place c.in-Some-position.at l e c.list.result.now c.list-2.result.now ms left
    c.in-Some.ensures.0 c.in-Some.ensures.1 c.index-before.ensures c.in-Some-position.ensures refl c.list.ensures.value c.list-2.ensures.value listed.1
    (ap numbers_of c.deref.ensures.value ∙ c.in_ok-left.ensures.houses) in
    epoch_refused c.args.self.now g c.args.dir.0 m rs ss s none c.enter_at.new.self c.in-Some-position.at e ms left c.new-serials.result c.enter_at.new.serials
    c.new-serials.ensures call c.in-Err.refusal c.epoch_refusal_in_script.result c.in_ok-enter_at.field-0 c.in-Err.is
    (c.in_ok-enter_at.ensures.acts (g.house m) call.leads call.later) (λ a is. c.epoch_refusal_in_script.ensures e.0 a is)
