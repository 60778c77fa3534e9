use Rattle.std.proofs.Common.{arith, ◌<◌, refl, subst, sym}
use Rattle.std.proofs.Math.ListN.{length-set}
use Rattle.cds_stamps.specs.Members.{members_of}
use Rattle.cds_cell.specs.declared.house.CellHouse.{CellHouse}
use Rattle.cds_cell.specs.PrivateSteps.{IsPlaceOf}
use Rattle.cds_cell.proofs.Houses.{place_within}
use Rattle.cds_cell.proofs.NewDirectories.{founder_placed, master_founds}
use Rattle.cds_cell.proofs.cell.Cell.found_at_master.Goals as goal

pub returns-in_default-clause-founds : goal.returns-in_default-clause-founds
returns-in_default-clause-founds c g s can = absurd (founder_placed c.args.self.now g c.args.dir.0 _ s can (rw (sym c.master.ensures) c.in_default.ensures))

pub index_mut-requires : goal.index_mut-requires
index_mut-requires c =
    let less = place_within c.args.self.now.houses.items c.master.result.0 c.in-Some.at c.in-Some.ensures in
    let long = c.args.self.now.houses.ok.0 in
    omega (arith, less, long)

pub post-requires-clause-house : goal.post-requires-clause-house
post-requires-clause-house c =
    subst (λ n. c.in-Some.at < n) (sym (length-set c.args.self.now.houses.items c.in-Some.at c.found.new.self))
    (place_within c.args.self.now.houses.items c.master.result.0 c.in-Some.at c.in-Some.ensures)

pub returns-clause-founds : goal.returns-clause-founds
returns-clause-founds c g s can =
    let h : CellHouse = c.index_mut.result.now in
    master_founds c.args.self.now _ c.post.new.self g c.in-Some.at h c.found.new.self c.args.dir (members_of c.args.members.now) c.args.serials.now
    c.post.new.serials c.in_ok-outgoing.outgoing s can (subst (λ x. IsPlaceOf c.args.self.now.houses.items x c.in-Some.at) c.master.ensures c.in-Some.ensures)
    c.index_mut.ensures.value refl refl refl refl c.found.ensures.who c.post.ensures.houses c.post.ensures.rest c.in_ok-post.ensures.posts
    (λ now stands up absent leads. c.in_ok-outgoing.ensures.step now stands up absent leads)
