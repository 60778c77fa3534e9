-- The text of answers of the form `journal`.
use Rattle.std.specs.Prelude.{ℕ, List, codes}
use Rattle.script_answers.specs.Texts.{answer_text, line_text}
use Rattle.journal_forms.specs.declared.journal_answer.JournalAnswer.{JournalAnswer}
use Rattle.journal_forms.specs.declared.journal_answer.JournalAnswer.TheVariants as answer

-- the text of the answer to the line of this number
abbrev pub journal_text : ℕ → JournalAnswer → List ℕ
journal_text number (answer.Plain a) = answer_text number a
journal_text number answer.StoppedBefore = line_text number (codes "ok stopped before")
journal_text number answer.StoppedAfter = line_text number (codes "ok stopped after")
journal_text number answer.NotActing = line_text number (codes "refused NotActing")
