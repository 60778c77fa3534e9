use Rattle.inquire_replay.proofs.PlainLaws.{plain_in, plain_transcript}
use Rattle.inquire_replay.proofs.laws.scripts_are_answered_as_before.Goals as goal

pub returns-clause-lines : goal.returns-clause-lines
returns-clause-lines c = plain_in

pub returns-clause-answers : goal.returns-clause-answers
returns-clause-answers c = plain_transcript
