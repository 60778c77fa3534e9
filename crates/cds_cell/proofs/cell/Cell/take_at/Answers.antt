use Rattle.std.proofs.Common.{ap, refl}
use Rattle.std.proofs.Common.{sym, subst}
use Rattle.std.specs.Prelude.{length}
use Rattle.std.proofs.lemmas.Option.{slice_get_read}
use Rattle.cds_cell.proofs.Houses.{house_of_place}
use Rattle.cell_model.specs.Turns as turns
use Rattle.house_directory.specs.HouseMessages.{StandsMessage}
use Rattle.house_directory.specs.DirectorySteps.{IsTakeAnswer}
use Rattle.cds_cell.specs.declared.cell.Cell.{Cell}
use Rattle.cds_cell.specs.declared.house.CellHouse.{CellHouse}
use Rattle.cds_cell.specs.PrivateHouses.{posted_at}
use Rattle.cds_cell.proofs.HouseActs.{acts_at, untaken_same}
use Rattle.cds_cell.proofs.Vecs.{with_same}
use Rattle.cds_cell.proofs.cell.Cell.take_at.Goals as goal

pub returns-clause-same : goal.returns-clause-same
returns-clause-same c =
    let old : Cell = c.args.self.now in
    let h : CellHouse = c.index_mut.result.now in
    untaken_same c.in_ok-turn.turn.answer old _ c.post.new.self h c.take.new.self c.in_ok-turn.turn.outgoing c.in_ok-turn.ensures.same c.in_ok-post.ensures.none
    (λ same. ap (λ houses. record old { houses = houses }) (with_same old.houses c.args.at h c.take.new.self same c.index_mut.ensures.value))

pub returns-clause-acts : goal.returns-clause-acts
returns-clause-acts c now m place said valid can =
    let h : CellHouse = c.index_mut.result.now in
    let hs = c.args.self.now.houses.items in
    let number = (house_of_place hs m.receiver c.args.at h place
    (slice_get_read hs (length hs) c.args.at h refl c.requires.house c.index_mut.ensures.value)).1 in
    let heard : StandsMessage h.house.0 c.args.message.now m = subst (λ n. StandsMessage n c.args.message.now m) (sym number) said in
    acts_at c.args.self.now _ c.post.new.self c.args.at h c.take.new.self c.args.serials.now c.post.new.serials (IsTakeAnswer c.in_ok-turn.turn.answer) now
    (λ house. turns.take now m) (λ j. posted_at j c.args.message.now.dir c.in_ok-turn.turn.outgoing)
    c.requires.house c.index_mut.ensures.value refl refl refl refl c.take.ensures.who c.post.ensures.houses c.post.ensures.rest c.in_ok-post.ensures.posts
    (λ stands up. c.in_ok-turn.ensures.step now m stands up heard valid can)
