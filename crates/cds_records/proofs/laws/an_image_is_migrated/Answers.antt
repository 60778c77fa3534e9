use Rattle.cds_records.proofs.WholeDecoding.{image_1_in_either, image_migrated, image_stays}
use Rattle.cds_records.proofs.laws.an_image_is_migrated.Goals as goal

pub returns-clause-former : goal.returns-clause-former
returns-clause-former c = λ i octets whole. image_migrated i octets (image_1_in_either i octets whole)

pub returns-clause-present : goal.returns-clause-present
returns-clause-present c = image_stays
