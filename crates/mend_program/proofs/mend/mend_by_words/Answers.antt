use Rattle.std.proofs.Common.{map, string_bytes}
use Rattle.cell_model.specs.Cells.{empty_cell}
use Rattle.line_forms.proofs.Turns.{unread_lines}
use Rattle.mend_replay.specs.MendRules.{mend_rule, mend_state}
use Rattle.mend_program.specs.ProgramWords.{houses_named}
use Rattle.mend_program.proofs.mend.mend_by_words.Goals as goal

pub returns-in-Ok : goal.returns-in-Ok
returns-in-Ok g c = rw c.in-Ok.ensures at c.mend_directory.ensures

pub returns-in-Err : goal.returns-in-Err
returns-in-Err g c = unread_lines mend_rule (mend_state c.args.dir.0 (houses_named (map string_bytes c.args.words.now)) empty_cell) _ _ _ _
