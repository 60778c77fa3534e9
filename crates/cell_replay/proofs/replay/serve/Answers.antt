use Rattle.cell_model.specs.Cells.{empty_cell}
use Rattle.line_forms.proofs.Turns.{unread_lines}
use Rattle.line_forms.specs.Endings.{side_of}
use Rattle.cell_replay.specs.Checking.{counts}
use Rattle.cell_replay.specs.FormReadings.{spelling_rule}
use Rattle.cell_replay.proofs.replay.serve.Goals as goal

pub returns-in-Run-clause-ends : goal.returns-in-Run-clause-ends
returns-in-Run-clause-ends g c = rw c.in-Run.is (c.serve_lines.ensures empty_cell c.new.ensures.cell)

pub returns-in-Check-clause-ends : goal.returns-in-Check-clause-ends
returns-in-Check-clause-ends g c = rw c.in-Check.is (c.serve_lines-in-Check.ensures (counts 0 0) (c.new-in-Check.ensures.lines, c.new-in-Check.ensures.commands))

pub returns-in-Load-clause-ends : goal.returns-in-Load-clause-ends
returns-in-Load-clause-ends g c = rw c.in-Load.is (c.load.ensures (side_of g.S.Source.left g.S.Source.faults c.args.source.now))

pub returns-in-Clerk-clause-ends : goal.returns-in-Clerk-clause-ends
returns-in-Clerk-clause-ends g c = rw c.in-Clerk.is c.serve_by_clerk.ensures

pub returns-in-Ok-clause-ends : goal.returns-in-Ok-clause-ends
returns-in-Ok-clause-ends g c = rw c.in-Untowers.is (c.serve_lines-in-Ok.ensures tt tt)

pub returns-in-Err-clause-ends : goal.returns-in-Err-clause-ends
returns-in-Err-clause-ends g c = rw c.in-Untowers.is (unread_lines spelling_rule tt _ _ _ _)

pub returns-in-Inquire-clause-ends : goal.returns-in-Inquire-clause-ends
returns-in-Inquire-clause-ends g c = rw c.in-Inquire.is (c.serve_lines-in-Inquire.ensures empty_cell c.new-in-Inquire.ensures.cell)

pub returns-in-Journal-clause-ends : goal.returns-in-Journal-clause-ends
returns-in-Journal-clause-ends g c = rw c.in-Journal.is c.journal_over_new_disks.ensures

pub returns-in-Run-clause-few : goal.returns-in-Run-clause-few
returns-in-Run-clause-few g c = rw c.in-Run.is tt

pub returns-in-Check-clause-few : goal.returns-in-Check-clause-few
returns-in-Check-clause-few g c = rw c.in-Check.is tt

pub returns-in-Load-clause-few : goal.returns-in-Load-clause-few
returns-in-Load-clause-few g c = rw c.in-Load.is tt

pub returns-in-Clerk-clause-few : goal.returns-in-Clerk-clause-few
returns-in-Clerk-clause-few g c = rw c.in-Clerk.is tt

pub returns-in-Ok-clause-few : goal.returns-in-Ok-clause-few
returns-in-Ok-clause-few g c = rw c.in-Untowers.is tt

pub returns-in-Inquire-clause-few : goal.returns-in-Inquire-clause-few
returns-in-Inquire-clause-few g c = rw c.in-Inquire.is tt

pub returns-in-Journal-clause-few : goal.returns-in-Journal-clause-few
returns-in-Journal-clause-few g c = rw c.in-Journal.is tt
