use Rattle.clerk_replay.specs.Clerking.{clerk_dialogue, start}
use Rattle.line_forms.proofs.Turns.{unread_lines}
use Rattle.line_forms.specs.LineRules.{dialogue_rule}
use Rattle.cell_replay.proofs.replay.serve_by_clerk.Goals as goal

pub returns-in-Ok : goal.returns-in-Ok
returns-in-Ok g c = c.serve_lines.ensures (start c.args.room) c.in-Ok.ensures.start

pub returns-in-Err : goal.returns-in-Err
returns-in-Err g c = unread_lines (dialogue_rule clerk_dialogue) (start c.args.room) _ _ _ _
