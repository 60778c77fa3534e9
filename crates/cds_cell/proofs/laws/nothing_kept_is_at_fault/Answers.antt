use Rattle.cds_cell.proofs.RecordedLaws.{house_starts, letter_decodes}
use Rattle.cds_cell.proofs.laws.nothing_kept_is_at_fault.Goals as goal

pub returns-clause-messages : goal.returns-clause-messages
returns-clause-messages c = λ cell g n octets stands is. letter_decodes cell g stands n octets is (c.octets_decode_to_one_thing.ensures.messages octets)

pub returns-clause-houses : goal.returns-clause-houses
returns-clause-houses c = λ cell g x octets stands is. house_starts cell g stands x octets is
