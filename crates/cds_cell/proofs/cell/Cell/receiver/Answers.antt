use Rattle.std.proofs.Common.{◌∙◌, ap}
use Rattle.std.specs.Option.{option_map}
use Rattle.cds_stamps.specs.declared.numbers.HouseNo.{HouseNo}
use Rattle.cds_cell.specs.declared.bag.Letter.{Letter}
use Rattle.cds_cell.proofs.RecordedLaws.{receiver_recorded}
use Rattle.cds_cell.proofs.cell.Cell.receiver.Goals as goal

pub returns-clause-model : goal.returns-clause-model
returns-clause-model c = λ g s.
    ap (λ o. option_map (λ (h : HouseNo). h.0) (option_map (λ (l : Letter). l.to) o)) c.in_ok-letter.ensures
    ∙ receiver_recorded c.args.self.now g s c.args.serial
