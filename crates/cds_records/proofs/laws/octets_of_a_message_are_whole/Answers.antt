use Rattle.cds_records.proofs.WholeMessages.{the_message_whole}
use Rattle.cds_records.proofs.laws.octets_of_a_message_are_whole.Goals as goal

pub returns : goal.returns
returns c = the_message_whole
