use Rattle.cds_records.proofs.SpellingRecords.{spell_image, spell_image_1}
use Rattle.cds_records.proofs.laws.an_image_has_one_spelling.Goals as goal

pub returns-clause-present : goal.returns-clause-present
returns-clause-present c = λ i a b. spell_image.same i a b

pub returns-clause-former : goal.returns-clause-former
returns-clause-former c = λ i a b. spell_image_1.same i a b
