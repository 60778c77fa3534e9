use Rattle.cds_records.proofs.SpellingRecords.{spell_message}
use Rattle.cds_records.proofs.laws.a_message_has_one_spelling.Goals as goal

pub returns : goal.returns
returns c = λ m a b. spell_message.same m a b
