use Rattle.std.proofs.Common.{◌∙◌, sym, Some}
use Rattle.inquire_forms.specs.Inquired.{entry_listed}
use Rattle.inquire_replay.proofs.CellInquiries.{listed_there}
use Rattle.inquire_replay.proofs.inquiries.entry.Goals as goal

pub returns-then-has_house : goal.returns-then-has_house
returns-then-has_house c g stands =
    listed_there c.args.at.cell.now g c.args.at.house.0 c.args.at.high (λ reader. entry_listed reader c.args.name.now) c.list_entry.result
    (c.cells_tell_the_model.ensures c.args.at.cell.now g stands (Some c.args.at.house.0) c.args.at.high)
    (sym (c.has_house.ensures.model g stands) ∙ c.if-has_house.true) c.list_entry.ensures
