use Rattle.std.proofs.Common.{◌∙◌, sym, subst, Some}
use Rattle.resolver.specs.Readers.{Reader, ShowsOnly}
use Rattle.cds_cell.specs.Readings.{objects_of}
use Rattle.cds_cell.specs.Telling.{program_reader}
use Rattle.script_replay.proofs.ReachedReadings.{reached_shows_only}
use Rattle.inquire_forms.specs.Inquired.{batches_listed}
use Rattle.inquire_replay.proofs.CellInquiries.{listed_there}
use Rattle.inquire_replay.proofs.inquiries.batches.Goals as goal

pub returns-then-has_house : goal.returns-then-has_house
returns-then-has_house c g stands =
    let cell = c.args.at.cell.now in
    let h = c.args.at.house.0 in
    let same = c.cells_tell_the_model.ensures cell g stands (Some h) c.args.at.high in
    let shows : ShowsOnly (program_reader cell (Some h) c.args.at.high) (objects_of g) =
    subst (λ (r : Reader). ShowsOnly r (objects_of g)) (sym same) (reached_shows_only g stands.reached (Some h) c.args.at.high) in
    listed_there cell g h c.args.at.high (λ reader. batches_listed reader (objects_of g) c.args.wanted c.args.most c.args.name.now) c.look_up.result
    same (sym (c.has_house.ensures.model g stands) ∙ c.if-has_house.true) (c.look_up.ensures (objects_of g) shows)
