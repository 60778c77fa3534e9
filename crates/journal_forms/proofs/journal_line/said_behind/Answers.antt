use Rattle.std.proofs.Common.{ap}
use Rattle.journal_forms.specs.JournalLines.{early_by}
use Rattle.journal_forms.proofs.LineNumbers.{said_numbers}
use Rattle.journal_forms.proofs.StopEnds.{early_said}
use Rattle.journal_forms.proofs.journal_line.said_behind.Goals as goal

pub returns-clause-numbers : goal.returns-clause-numbers
returns-clause-numbers c =
    said_numbers c.args.word.now c.args.words.now c.in_ok-journal_line_behind.field-0 c.in_ok-journal_line_behind.ensures.answer

pub returns-clause-early : goal.returns-clause-early
returns-clause-early c =
    early_said (early_by c.args.word.now c.args.words.now) _ c.in_ok-journal_line_behind.field-0 _
    (ap (λ n. early_by c.args.word.now (record { read = n; rest = c.args.words.now.rest })) c.requires) c.in_ok-journal_line_behind.ensures.early
