use Rattle.clerk_replay.specs.Clerking.{start}
use Rattle.form_laws.proofs.Lines.{same_cell, same_text}
use Rattle.form_laws.proofs.laws.all_else_is_as_by_run.Goals as goal

pub returns-clause-cell : goal.returns-clause-cell
returns-clause-cell c room said = same_cell (start room) said

pub returns-clause-text : goal.returns-clause-text
returns-clause-text c = same_text
