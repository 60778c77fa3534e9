use Rattle.cell_replay.proofs.InquiredScripts.{demands_the_same, plain_script}
use Rattle.cell_replay.proofs.laws.scripts_are_inquired_as_run.Goals as goal

pub returns-clause-script : goal.returns-clause-script
returns-clause-script c = λ lines said is. plain_script c.scripts_are_answered_as_before.ensures.lines lines 1 said is

pub returns-clause-demand : goal.returns-clause-demand
returns-clause-demand c = demands_the_same c.scripts_are_answered_as_before.ensures.lines c.scripts_are_answered_as_before.ensures.answers
