use Rattle.std.proofs.Common.{◌∙◌}
use Rattle.cds_cell.proofs.Counts.{directories_counted}
use Rattle.cds_cell.proofs.cell.Cell.directories.Goals as goal

pub returns-clause-model : goal.returns-clause-model
returns-clause-model c g s = c.len.ensures ∙ c.args.self.now.directories.ok.0 ∙ directories_counted c.args.self.now g s.stands
