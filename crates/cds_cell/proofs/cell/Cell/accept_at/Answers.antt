use Rattle.std.proofs.Common.{ap, refl}
use Rattle.directory.specs.Updates.{change_of}
use Rattle.cell_model.specs.Turns as turns
use Rattle.house_directory.specs.DirectorySteps.{IsStampAnswer}
use Rattle.cds_cell.specs.declared.cell.Cell.{Cell}
use Rattle.cds_cell.specs.declared.house.CellHouse.{CellHouse}
use Rattle.cds_cell.specs.PrivateHouses.{posted_at}
use Rattle.cds_cell.proofs.HouseActs.{acts_at, refused_same}
use Rattle.cds_cell.proofs.Vecs.{with_same}
use Rattle.cds_cell.proofs.cell.Cell.accept_at.Goals as goal

pub returns-clause-refused : goal.returns-clause-refused
returns-clause-refused c =
    let old : Cell = c.args.self.now in
    let h : CellHouse = c.index_mut.result.now in
    refused_same c.in_ok-turn.turn.answer old _ c.post.new.self h c.accept.new.self c.in_ok-turn.turn.outgoing c.in_ok-turn.ensures.refused
    c.in_ok-post.ensures.none
    (λ same. ap (λ houses. record old { houses = houses }) (with_same old.houses c.args.at h c.accept.new.self same c.index_mut.ensures.value))

pub returns-clause-acts : goal.returns-clause-acts
returns-clause-acts c now =
    let h : CellHouse = c.index_mut.result.now in
    acts_at c.args.self.now _ c.post.new.self c.args.at h c.accept.new.self c.args.serials.now c.post.new.serials (IsStampAnswer c.in_ok-turn.turn.answer) now
    (λ house. turns.accept house now c.args.dir.0 (change_of c.args.update.now)) (λ j. posted_at j c.args.dir c.in_ok-turn.turn.outgoing)
    c.requires.house c.index_mut.ensures.value refl refl refl refl c.accept.ensures.who c.post.ensures.houses c.post.ensures.rest c.in_ok-post.ensures.posts
    (λ stands up. c.in_ok-turn.ensures.step now stands up)
