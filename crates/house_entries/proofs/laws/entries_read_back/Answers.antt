use Rattle.house_entries.proofs.BodyLemmas.{one_record}
use Rattle.house_entries.proofs.laws.entries_read_back.Goals as goal

pub returns : goal.returns
returns c = one_record
