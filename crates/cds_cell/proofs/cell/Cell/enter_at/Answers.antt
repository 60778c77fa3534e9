use Rattle.std.proofs.Common.{◌≡◌, ◌∙◌, ap, refl, subst, sym}
use Rattle.std.specs.Prelude.{OnErr, None, Some, length, slice_get}
use Rattle.std.specs.Result.{result_err}
use Rattle.std.proofs.lemmas.Option.{slice_get_read}
use Rattle.cds_stamps.specs.Members.{master_of, members_of}
use Rattle.cell_model.specs.Turns as turns
use Rattle.house_directory.specs.HouseMessages.{numbers_of}
use Rattle.house_directory.specs.DirectorySteps.{IsEpochAnswer}
use Rattle.cds_cell.specs.declared.cell.Cell.{Cell}
use Rattle.cds_cell.specs.declared.house.CellHouse.{CellHouse}
use Rattle.cds_cell.specs.PrivateHouses.{Asks, epoch_posted_by}
use Rattle.cds_cell.proofs.HouseActs.{acts_alone, acts_at, epoch_unposted, posted_twice}
use Rattle.cds_cell.proofs.Houses.{house_of_place}
use Rattle.cds_cell.proofs.Vecs.{with_same}
use Rattle.cds_cell.proofs.cell.Cell.enter_at.Goals as goal

pub returns-in-Err-clause-refused : goal.returns-in-Err-clause-refused
returns-in-Err-clause-refused c =
    let old : Cell = c.args.self.now in
    let h : CellHouse = c.index_mut.result.now in
    let same : c.enter_epoch.new.self ≡ h = subst (λ r. OnErr r (c.enter_epoch.new.self ≡ h)) c.in-Err.is c.in_ok-refusal.ensures.refused in
    ap (λ houses. record old { houses = houses }) (with_same old.houses c.args.at h c.enter_epoch.new.self same c.index_mut.ensures.value)

pub returns-in-Err-clause-acts : goal.returns-in-Err-clause-acts
returns-in-Err-clause-acts c now place later =
    let h : CellHouse = c.index_mut.result.now in
    let k : CellHouse = c.enter_epoch.new.self in
    let hs = c.args.self.now.houses.items in
    let ms = members_of c.args.members.now in
    let e = c.args.epoch.0 in
    let number : h.house.0 ≡ master_of ms =
    (house_of_place hs (master_of ms) c.args.at h place (slice_get_read hs (length hs) c.args.at h refl c.requires.house c.index_mut.ensures.value)).1 in
    acts_alone c.args.self.now _ c.args.at h k c.args.serials.now (IsEpochAnswer e (Some c.in-Err.refusal)) now
    (λ house. turns.new_epoch house now c.args.dir.0 e ms (numbers_of c.args.left.now)) c.requires.house c.index_mut.ensures.value refl refl refl refl
    c.enter_epoch.ensures.who
    (λ stands up.
    subst (λ ps. Asks (IsEpochAnswer e (Some c.in-Err.refusal)) (turns.new_epoch h.house.0 now c.args.dir.0 e ms (numbers_of c.args.left.now)) h k ps)
    (epoch_unposted k.state c.args.dir c.args.epoch c.args.left.now c.in-Err.refusal)
    (subst (λ r. Asks (IsEpochAnswer e (result_err r)) (turns.new_epoch h.house.0 now c.args.dir.0 e ms (numbers_of c.args.left.now)) h k
    (epoch_posted_by k.state c.args.dir c.args.epoch c.args.left.now (result_err r))) c.in-Err.is
    (c.in_ok-refusal.ensures.step now c.args.left.now stands up (sym number) later)))

pub returns-in_ok-post_leaves-in-Ok-clause-acts : goal.returns-in_ok-post_leaves-in-Ok-clause-acts
returns-in_ok-post_leaves-in-Ok-clause-acts c now place later =
    let h : CellHouse = c.index_mut.result.now in
    let k : CellHouse = c.enter_epoch.new.self in
    let hs = c.args.self.now.houses.items in
    let ms = members_of c.args.members.now in
    let e = c.args.epoch.0 in
    let number : h.house.0 ≡ master_of ms =
    (house_of_place hs (master_of ms) c.args.at h place (slice_get_read hs (length hs) c.args.at h refl c.requires.house c.index_mut.ensures.value)).1 in
    acts_at c.args.self.now _ c.post_leaves.new.self c.args.at h k c.args.serials.now c.post_leaves.new.serials (IsEpochAnswer e None) now
    (λ house. turns.new_epoch house now c.args.dir.0 e ms (numbers_of c.args.left.now))
    (λ j. epoch_posted_by j.state c.args.dir c.args.epoch c.args.left.now None) c.requires.house c.index_mut.ensures.value refl refl refl refl
    c.enter_epoch.ensures.who (c.post_leaves.ensures.houses ∙ c.post.ensures.houses)
    (record {
      directories = c.post_leaves.ensures.rest.directories ∙ c.post.ensures.rest.directories;
      spent = c.post_leaves.ensures.rest.spent ∙ c.post.ensures.rest.spent;
    })
    (λ j there.
    posted_twice _ c.post.new.self.bag c.post_leaves.new.self.bag c.args.serials.now c.post.new.serials c.post_leaves.new.serials j.state c.args.dir
    c.args.epoch c.args.left.now (c.in_ok-post-in-Ok.ensures.posts j there)
    (c.in_ok-post_leaves-in-Ok.ensures.posts j (ap (λ v. slice_get v.items c.args.at) c.post.ensures.houses ∙ there)))
    (λ stands up.
    subst (λ r. Asks (IsEpochAnswer e (result_err r)) (turns.new_epoch h.house.0 now c.args.dir.0 e ms (numbers_of c.args.left.now)) h k
    (epoch_posted_by k.state c.args.dir c.args.epoch c.args.left.now (result_err r))) c.in-Ok.is
    (c.in_ok-refusal.ensures.step now c.args.left.now stands up (sym number) later))
