use Rattle.std.proofs.Common.{Some, ap, ◌∙◌}
use Rattle.std.specs.Option.{option_map}
use Rattle.std.specs.Rc.{rc_slice_items}
use Rattle.cds_cell.specs.declared.bag.Letter.{Letter}
use Rattle.cds_cell.proofs.RecordedLaws.{octets_recorded}
use Rattle.cds_cell.proofs.cell.Cell.message.Goals as goal

pub returns-clause-model : goal.returns-clause-model
returns-clause-model c = λ g s.
    ap Some c.octets.ensures ∙ ap (option_map (λ (l : Letter). rc_slice_items l.shared)) c.in_ok-letter.ensures
    ∙ octets_recorded c.args.self.now g s c.args.serial
